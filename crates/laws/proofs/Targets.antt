-- Where each motion leads from a place in the text, and which bytes an operator then takes.
use Rattle.std.proofs.Common.{◌≡◌, ℕ, suc, ◌+◌, ◌-◌, ◌<◌, ◌≤◌, min, max, Bool, true, false, eqb, ltb, leb, length, sym, refl, ⊎_elim, arith}
use mathlib.Core.Option.{Option, some, none}
use Rattle.std.proofs.lemmas.Bool.{cond_both, cases_lt, leb-false, false≢true}
use Rattle.spec.specs.Text.{Text, line_end, line_start, column, line_of, line_count, nth_line, last_in_line, clamp}
use Rattle.spec.specs.Motions.{Motion, char_left, char_right, line_down, line_up, to_line_start, to_first_nonblank, to_line_end, to_next_word, to_previous_word, to_word_end, to_line_or_last, to_line_or_first, find, till, Extent, exclusive, inclusive, linewise, Target, times, or_one, next_word, previous_word, find_in_line, left_by, right_by, in_line, down_by, up_by, line_end_by, words_on, words_back, word_ends_on, to_line, found_by, motion_target, Region, region, lines_region}
use Rattle.laws.proofs.TextLines.{line_start_down, line_end_up, line_end_within, nth_line_within}
use Rattle.laws.proofs.TextCounts.{nth_line_line_of, nth_line_up}
use Rattle.laws.proofs.Standing.{StandsAt, in_line_stands, line_start_stands, last_in_line_stands, at_column_stands, first_nonblank_stands, clamp_stands, before_line_end_stands}
use Rattle.laws.proofs.TextMotions.{times_keeps, Each, Between, next_word_up, next_word_within, previous_word_stands, find_in_line_between}

-- From a place at which the cursor may stand to another. operated: whether the motion stands behind an operator
pub record Leads (operated : Bool) (t : Text) (a : ℕ) (g : Target) : Type 0 where
  pub within : g.place ≤ length t
  pub lower : StandsAt t a → StandsAt t (min a g.place)
  pub alone : operated ≡ false → StandsAt t a → StandsAt t g.place

lower_stands : (t : Text) (a b : ℕ) → StandsAt t a → StandsAt t b → StandsAt t (min a b)
lower_stands t a b h k =
    ⊎_elim (λ (l : a < b). let s : min a b ≡ a = omega arith in rw s h) (λ (l : b ≤ a). let s : min a b ≡ b = omega arith in rw s k) (cases_lt a b)

keeps_leads : (o : Bool) (t : Text) (a b : ℕ) (x : Extent) → b ≤ length t → (StandsAt t a → StandsAt t b) → Leads o t a (record { place = b; extent = x })
keeps_leads o t a b x w k = record { within = w; lower = λ h. lower_stands t a b h (k h); alone = λ _. k }

stands_leads : (o : Bool) (t : Text) (a b : ℕ) (x : Extent) → StandsAt t b → Leads o t a (record { place = b; extent = x })
stands_leads o t a b x k = keeps_leads o t a b x k.within (λ _. k)

-- behind an operator a place further on does as well
ahead_leads : (t : Text) (a b : ℕ) (x : Extent) → Between a (suc (length t)) b → Leads true t a (record { place = b; extent = x })
ahead_leads t a b x k = let s : min a b ≡ a = omega arith in record { within = omega arith; lower = λ h. rw s h; alone = λ e. absurd (false≢true (sym e)) }

line_end_ahead : (t : Text) (a : ℕ) → a ≤ length t → Between a (suc (length t)) (line_end t a)
line_end_ahead t a h = record { from = line_end_up t a; before = omega (arith, line_end_within t a h) }

left_by_leads : (o : Bool) (t : Text) (a n : ℕ) → a ≤ length t → Each (Leads o t a) (left_by t a n)
unfolding left_by column
left_by_leads o t a n h =
    cond_both (eqb (a - line_start t a) 0) none _ (Each (Leads o t a)) (λ _. tt) (λ _. keeps_leads o t a _ exclusive (omega arith) (λ s. in_line_stands t a (a - min n (a - line_start t a)) h (omega (arith, line_start_down t a)) (omega (arith, s.on_byte))))

right_by_leads : (o : Bool) (t : Text) (a n : ℕ) → a ≤ length t → Each (Leads o t a) (right_by o t a n)
unfolding right_by
right_by_leads false t a n h =
    cond_both (leb (last_in_line t a) a) none _ (Each (Leads false t a)) (λ _. tt) (λ e. stands_leads false t a _ exclusive (in_line_stands t a (min (a + n) (last_in_line t a)) h (omega (arith, line_start_down t a, leb-false _ _ e)) (omega arith)))
right_by_leads true t a n h =
    cond_both (leb (line_end t a) a) none _ (Each (Leads true t a)) (λ _. tt) (λ e. ahead_leads t a _ exclusive (record { from = omega (arith, leb-false _ _ e); before = omega (arith, line_end_within t a h) }))

in_line_leads : (o : Bool) (t : Text) (a l col : ℕ) → Each (Leads o t a) (in_line t l col)
unfolding in_line
in_line_leads o t a l col = stands_leads o t a _ linewise (at_column_stands t (nth_line t l) col (nth_line_within t l))

down_by_leads : (o : Bool) (t : Text) (a col n : ℕ) → Each (Leads o t a) (down_by t a col n)
unfolding down_by
down_by_leads o t a col n =
    cond_both (ltb (line_of t a + n) (line_count t)) _ none (Each (Leads o t a)) (λ _. in_line_leads o t a (line_of t a + n) col) (λ _. tt)

up_by_leads : (o : Bool) (t : Text) (a col n : ℕ) → Each (Leads o t a) (up_by t a col n)
unfolding up_by
up_by_leads o t a col n =
    cond_both (leb n (line_of t a)) _ none (Each (Leads o t a)) (λ _. in_line_leads o t a (line_of t a - n) col) (λ _. tt)

line_end_by_leads : (o : Bool) (t : Text) (a n : ℕ) → Each (Leads o t a) (line_end_by t a n)
unfolding line_end_by
line_end_by_leads o t a n =
    cond_both (ltb (line_of t a + (n - 1)) (line_count t)) _ none (Each (Leads o t a)) (λ _. stands_leads o t a _ inclusive (last_in_line_stands t _ (nth_line_within t _))) (λ _. tt)

-- next words, one after another
next_words : (t : Text) (a n : ℕ) → a ≤ length t → Between a (suc (length t)) (times n (next_word t) a)
next_words t a n h =
    times_keeps (Between a (suc (length t))) (next_word t) (λ b k. record { from = omega (arith, next_word_up t b (omega arith)); before = omega (arith, next_word_within t b) }) n a (record { from = omega arith; before = omega arith })

words_on_leads : (o : Bool) (t : Text) (a n : ℕ) → a ≤ length t → Each (Leads o t a) (words_on o t a n)
unfolding words_on
words_on_leads false t a n h =
    cond_both (eqb (clamp t (times n (next_word t) a)) a) none _ (Each (Leads false t a)) (λ _. tt) (λ _. stands_leads false t a _ exclusive (clamp_stands t _))
words_on_leads true t a n h =
    cond_both (eqb (times n (next_word t) a) a) none _ (Each (Leads true t a)) (λ _. tt) (λ _. ahead_leads t a _ exclusive (cond_both _ _ _ (Between a (suc (length t))) (λ _. line_end_ahead t a h) (λ _. next_words t a n h)))

words_back_leads : (o : Bool) (t : Text) (a n : ℕ) → a ≤ length t → Each (Leads o t a) (words_back t a n)
unfolding words_back
words_back_leads o t a n h =
    cond_both (eqb (times n (previous_word t) a) a) none _ (Each (Leads o t a)) (λ _. tt) (λ _. keeps_leads o t a _ exclusive (times_keeps (λ b. b ≤ length t) (previous_word t) (λ b k. (previous_word_stands t b k).within) n a h) (times_keeps (StandsAt t) (previous_word t) (λ b k. previous_word_stands t b k.within) n a))

word_ends_on_leads : (o : Bool) (t : Text) (a n : ℕ) → Each (Leads o t a) (word_ends_on t a n)
unfolding word_ends_on
word_ends_on_leads o t a n =
    cond_both (leb (length t) (suc a)) none _ (Each (Leads o t a)) (λ _. tt) (λ _. stands_leads o t a _ inclusive (clamp_stands t _))

to_line_leads : (o : Bool) (t : Text) (a l : ℕ) → Each (Leads o t a) (to_line t l)
unfolding to_line
to_line_leads o t a l = stands_leads o t a _ linewise (first_nonblank_stands t _ (nth_line_within t _))

-- back: at most one
found_by_leads : (o : Bool) (back c : ℕ) (t : Text) (a n : ℕ) → back ≤ 1 → a ≤ length t → Each (Leads o t a) (found_by back c t a n)
unfolding found_by
found_by_leads o back c t a n l h = at (find_in_line c n t a) refl (find_in_line_between c n t a)
  where
    at : (f : Option ℕ) → find_in_line c n t a ≡ f → Each (Between (suc a) (line_end t a)) f → Each (Leads o t a) (found_by back c t a n)
    at none e k = rw e tt
    at (some b) e k =
        rw e (stands_leads o t a (b - back) inclusive (before_line_end_stands t a (b - back) h (omega (arith, line_start_down t a)) (omega arith)))

pub motion_leads : (o : Bool) (t : Text) (a col n : ℕ) (m : Motion) → a ≤ length t → Each (Leads o t a) (motion_target o t a col n m)
unfolding motion_target
motion_leads o t a col n char_left h = left_by_leads o t a (or_one n) h
motion_leads o t a col n char_right h = right_by_leads o t a (or_one n) h
motion_leads o t a col n line_down h = down_by_leads o t a col (or_one n)
motion_leads o t a col n line_up h = up_by_leads o t a col (or_one n)
motion_leads o t a col n to_line_start h = stands_leads o t a _ exclusive (line_start_stands t a h)
motion_leads o t a col n to_first_nonblank h = stands_leads o t a _ exclusive (first_nonblank_stands t a h)
motion_leads o t a col n to_line_end h = line_end_by_leads o t a (or_one n)
motion_leads o t a col n to_next_word h = words_on_leads o t a (or_one n) h
motion_leads o t a col n to_previous_word h = words_back_leads o t a (or_one n) h
motion_leads o t a col n to_word_end h = word_ends_on_leads o t a (or_one n)
motion_leads o t a col n to_line_or_last h = to_line_leads o t a _
motion_leads o t a col n to_line_or_first h = to_line_leads o t a _
motion_leads o t a col n (find c) h = found_by_leads o 0 c t a (or_one n) (omega arith) h
motion_leads o t a col n (till c) h = found_by_leads o 1 c t a (or_one n) (omega arith) h

-- What an operator takes lies within the text; where bytes that are no whole lines begin the cursor may stand, if it may at a.
pub record Takes (t : Text) (a : ℕ) (r : Region) : Type 0 where
  pub from_within : r.from ≤ length t
  pub to_within : r.to ≤ length t
  pub ordered : r.from ≤ r.to
  pub from_stands : r.linewise ≡ false → StandsAt t a → StandsAt t r.from

region_of_extent : (o : Bool) (t : Text) (a b : ℕ) (x : Extent) → a ≤ length t → Leads o t a (record { place = b; extent = x }) → Takes t a (region t a (record { place = b; extent = x }))
unfolding region
region_of_extent o t a b exclusive h k =
    record { from_within = omega arith; to_within = omega arith; ordered = omega arith; from_stands = λ _. k.lower }
region_of_extent o t a b inclusive h k =
    record { from_within = omega arith; to_within = omega (arith, line_end_within t (max a b) (omega arith)); ordered = omega (arith, line_end_up t (max a b)); from_stands = λ _. k.lower }
region_of_extent o t a b linewise h k =
    record { from_within = omega (arith, line_start_down t (min a b)); to_within = line_end_within t (max a b) (omega arith); ordered = omega (arith, line_start_down t (min a b), line_end_up t (max a b)); from_stands = λ e _. absurd (false≢true (sym e)) }

pub region_takes : (o : Bool) (t : Text) (a : ℕ) (g : Target) → a ≤ length t → Leads o t a g → Takes t a (region t a g)
region_takes o t a g h k = region_of_extent o t a g.place g.extent h k

pub lines_region_takes : (t : Text) (a n : ℕ) → a ≤ length t → Each (Takes t a) (lines_region t a n)
unfolding lines_region
lines_region_takes t a n h =
    cond_both (leb (line_of t a + n) (line_count t)) _ none (Each (Takes t a)) (λ _. record { from_within = omega (arith, line_start_down t a); to_within = line_end_within t _ (nth_line_within t _); ordered = omega (arith, nth_line_line_of t a h, nth_line_up t (line_of t a) (line_of t a + (n - 1)) (omega arith), line_end_up t (nth_line t (line_of t a + (n - 1)))); from_stands = λ e _. absurd (false≢true (sym e)) }) (λ _. tt)
