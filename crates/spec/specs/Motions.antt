-- Where motions lead from a place in a text, and which bytes an operator then takes.
use Rattle.std.specs.Prelude.{ℕ, zero, suc, ◌+◌, ◌-◌, min, max, Bool, true, false, cond, not, ◌&&◌, [], ◌∷◌, length, drop, ◌==◌, nat_le, nat_lt}
use Rattle.std.proofs.Math.Option.{Option, some, none}
use Rattle.spec.specs.Bytes.{is_newline, is_white, class, same_class}
use Rattle.spec.specs.Text.{Text, byte, part, skip_forward, skip_back, line_end, line_start, column, line_of, line_count, nth_line, last_in_line, at_column, first_nonblank, clamp}

pub data Motion : Type 0 where
  -- h l j k
  char_left : Motion
  char_right : Motion
  line_down : Motion
  line_up : Motion
  -- 0 ^ $
  to_line_start : Motion
  to_first_nonblank : Motion
  to_line_end : Motion
  -- w b e
  to_next_word : Motion
  to_previous_word : Motion
  to_word_end : Motion
  -- G gg: the line of the count, or the last, or the first
  to_line_or_last : Motion
  to_line_or_first : Motion
  -- f t and the byte to look for
  find : ℕ → Motion
  till : ℕ → Motion

-- what an operator takes: up to the target, with the byte at it, or the whole lines from here to there
pub data Extent : Type 0 where
  exclusive : Extent
  inclusive : Extent
  linewise : Extent

pub record Target : Type 0 where
  pub place : ℕ
  pub extent : Extent

abbrev pub target : ℕ → Extent → Option Target
target a x = some (record { place = a; extent = x })

-- a function so many times
abbrev pub times : {A : Type 0} → ℕ → (A → A) → A → A
times zero f a = a
times (suc n) f a = times n f (f a)

-- a count, or 1 where there is none
abbrev pub or_one : ℕ → ℕ
or_one zero = 1
or_one (suc n) = suc n

-- whether an empty line begins, and so ends, at a place
unfoldable pub is_empty_line : Text → ℕ → Bool
is_empty_line t a = is_newline (byte t a) && line_start t a == a

-- how much white there is at a text's front before a word or an empty line; the Bool: whether a line begins there
unfoldable pub white_span : Bool → Text → ℕ
white_span at_start [] = 0
white_span at_start (c ∷ cs) =
    cond (is_white c && not (at_start && is_newline c)) (suc (white_span (is_newline c) cs)) 0

unfoldable pub skip_white : Text → ℕ → ℕ
skip_white t a = a + white_span (line_start t a == a) (drop a t)

-- the end of the word at a place, or of the empty line; a place in white is its own
unfoldable pub word_passed : Text → ℕ → ℕ
word_passed t a =
    cond (is_empty_line t a) (suc a)
    (cond (is_white (byte t a)) a
    (skip_forward (λ c. same_class (class c) (class (byte t a))) t a))

-- where the next word or empty line begins, or the text's end
unfoldable pub next_word : Text → ℕ → ℕ
next_word t a = min (skip_white t (word_passed t a)) (length t)

-- back over white, as far as an empty line
unfoldable pub skip_white_back : Text → ℕ → ℕ
skip_white_back t zero = zero
skip_white_back t (suc a) =
    cond (is_white (byte t a) && not (is_empty_line t a)) (skip_white_back t a) (suc a)

-- where the word begins of which a place is the end; an empty line is one
unfoldable pub word_start : Text → ℕ → ℕ
word_start t zero = zero
word_start t (suc a) =
    cond (is_empty_line t a) a
    (skip_back (λ c. same_class (class c) (class (byte t a))) t (suc a))

-- where the word before begins, or the empty line, or the text
unfoldable pub previous_word : Text → ℕ → ℕ
previous_word t a = word_start t (skip_white_back t a)

-- the last byte of the word that begins at a place, or of the text
unfoldable pub word_last : Text → ℕ → ℕ
word_last t a = skip_forward (λ c. same_class (class c) (class (byte t a))) t a - 1

-- the next last byte of a word; empty lines are none here
unfoldable pub word_end : Text → ℕ → ℕ
word_end t a = word_last t (skip_forward is_white t (suc a))

-- the place of the n-th byte c among bytes that begin at a place
unfoldable pub nth_found : ℕ → ℕ → Text → ℕ → Option ℕ
nth_found c n [] a = none
nth_found c zero (x ∷ xs) a = none
nth_found c (suc n) (x ∷ xs) a =
    cond (x == c) (cond (n == 0) (some a) (nth_found c n xs (suc a))) (nth_found c (suc n) xs (suc a))

-- the n-th byte c behind a place in its line
unfoldable pub find_in_line : ℕ → ℕ → Text → ℕ → Option ℕ
find_in_line c n t a = nth_found c n (part t (suc a) (line_end t a)) (suc a)

-- Each motion: from a place of a text by a count of at least 1. None where it can't be done.
unfoldable pub left_by : Text → ℕ → ℕ → Option Target
left_by t a n = cond (column t a == 0) none (target (a - min n (column t a)) exclusive)

-- behind an operator it may go behind the line's last byte
unfoldable pub right_by : Bool → Text → ℕ → ℕ → Option Target
right_by operated t a n = up_to (cond operated (line_end t a) (last_in_line t a))
  where
    up_to : ℕ → Option Target
    up_to limit = cond (nat_le limit a) none (target (min (a + n) limit) exclusive)

-- the place in line l at a column
unfoldable pub in_line : Text → ℕ → ℕ → Option Target
in_line t l col = target (at_column t (nth_line t l) col) linewise

unfoldable pub down_by : Text → ℕ → ℕ → ℕ → Option Target
down_by t a col n =
    cond (nat_lt (line_of t a + n) (line_count t)) (in_line t (line_of t a + n) col) none

unfoldable pub up_by : Text → ℕ → ℕ → ℕ → Option Target
up_by t a col n = cond (nat_le n (line_of t a)) (in_line t (line_of t a - n) col) none

-- the last byte of the line that is n - 1 lines down
unfoldable pub line_end_by : Text → ℕ → ℕ → Option Target
line_end_by t a n =
    cond (nat_lt (line_of t a + (n - 1)) (line_count t))
    (target (last_in_line t (nth_line t (line_of t a + (n - 1)))) inclusive) none

-- behind an operator the text's end is a target too, and one word into a later line goes only to this line's end
unfoldable pub words_on : Bool → Text → ℕ → ℕ → Option Target
words_on operated t a n = cond operated (behind_operator (times n (next_word t) a)) (alone (clamp t (times n (next_word t) a)))
  where
    alone : ℕ → Option Target
    alone b = cond (b == a) none (target b exclusive)

    cut_short : ℕ → Bool
    cut_short b = nat_lt (line_of t a) (line_of t b) && (n == 1 && nat_lt a (line_end t a))

    behind_operator : ℕ → Option Target
    behind_operator b = cond (b == a) none (target (cond (cut_short b) (line_end t a) b) exclusive)

unfoldable pub words_back : Text → ℕ → ℕ → Option Target
words_back t a n = at (times n (previous_word t) a)
  where
    at : ℕ → Option Target
    at b = cond (b == a) none (target b exclusive)

unfoldable pub word_ends_on : Text → ℕ → ℕ → Option Target
word_ends_on t a n =
    cond (nat_le (length t) (suc a)) none (target (clamp t (times n (word_end t) a)) inclusive)

-- the first byte that is no blank of line l, or of the last line
unfoldable pub to_line : Text → ℕ → Option Target
to_line t l = target (first_nonblank t (nth_line t (min l (line_count t - 1)))) linewise

-- back: by how many bytes before the byte that is found
unfoldable pub found_by : ℕ → ℕ → Text → ℕ → ℕ → Option Target
found_by back c t a n = at (find_in_line c n t a)
  where
    at : Option ℕ → Option Target
    at none = none
    at (some b) = target (b - back) inclusive

-- operated: whether the motion stands behind an operator; col: the column that j and k keep to; n: the count, 0 for none
unfoldable pub motion_target : Bool → Text → ℕ → ℕ → ℕ → Motion → Option Target
motion_target operated t a col n char_left = left_by t a (or_one n)
motion_target operated t a col n char_right = right_by operated t a (or_one n)
motion_target operated t a col n line_down = down_by t a col (or_one n)
motion_target operated t a col n line_up = up_by t a col (or_one n)
motion_target operated t a col n to_line_start = target (line_start t a) exclusive
motion_target operated t a col n to_first_nonblank = target (first_nonblank t a) exclusive
motion_target operated t a col n to_line_end = line_end_by t a (or_one n)
motion_target operated t a col n to_next_word = words_on operated t a (or_one n)
motion_target operated t a col n to_previous_word = words_back t a (or_one n)
motion_target operated t a col n to_word_end = word_ends_on t a (or_one n)
motion_target operated t a col n to_line_or_last = to_line t (cond (n == 0) (line_count t - 1) (n - 1))
motion_target operated t a col n to_line_or_first = to_line t (or_one n - 1)
motion_target operated t a col n (find c) = found_by 0 c t a (or_one n)
motion_target operated t a col n (till c) = found_by 1 c t a (or_one n)

-- j and k keep to the column in which the cursor last stood by another command
abbrev pub keeps_column : Motion → Bool
keeps_column char_left = false
keeps_column char_right = false
keeps_column line_down = true
keeps_column line_up = true
keeps_column to_line_start = false
keeps_column to_first_nonblank = false
keeps_column to_line_end = false
keeps_column to_next_word = false
keeps_column to_previous_word = false
keeps_column to_word_end = false
keeps_column to_line_or_last = false
keeps_column to_line_or_first = false
keeps_column (find c) = false
keeps_column (till c) = false

-- what an operator takes: the bytes from one place up to another; of whole lines, without the last one's line end
pub record Region : Type 0 where
  pub from : ℕ
  pub to : ℕ
  pub linewise : Bool

unfoldable pub region : Text → ℕ → Target → Region
region t a g = by g.extent
  where
    low : ℕ
    low = min a g.place

    high : ℕ
    high = max a g.place

    by : Extent → Region
    by exclusive = record { from = low; to = high; linewise = false }
    by inclusive = record { from = low; to = min (suc high) (line_end t high); linewise = false }
    by linewise = record { from = line_start t low; to = line_end t high; linewise = true }

-- n whole lines from that of a place on, if there are as many
unfoldable pub lines_region : Text → ℕ → ℕ → Option Region
lines_region t a n =
    cond (nat_le (line_of t a + n) (line_count t))
    (some (record { from = line_start t a; to = line_end t (nth_line t (line_of t a + (n - 1))); linewise = true }))
    none
