-- A text is bytes. Line ends part its lines; behind the last line end there is a line too, perhaps an empty one.
-- A place is the number of bytes before it. Lines and columns are counted from 0.
use Rattle.std.specs.Prelude.{ℕ, zero, suc, ◌+◌, ◌-◌, min, Bool, cond, not, List, [], ◌∷◌, ◌++◌, length, take, drop, nat_lt, slice_index_or, slice_range}
use Rattle.spec.specs.Bytes.{newline, is_newline, is_blank}

abbrev pub Text : Type 0
Text = List ℕ

-- the byte at a place; a line end behind the text
abbrev pub byte : Text → ℕ → ℕ
byte t a = slice_index_or t a newline

-- the bytes from place a up to place b
abbrev pub part : Text → ℕ → ℕ → Text
part t a b = slice_range t a b

-- the text with these bytes replaced
abbrev pub replaced : Text → ℕ → ℕ → Text → Text
replaced t a b new = take a t ++ (new ++ drop b t)

-- a text so many times
unfoldable pub copies : ℕ → Text → Text
copies zero t = []
copies (suc n) t = t ++ copies n t

-- how many bytes at a text's front pass a test
unfoldable pub span : (ℕ → Bool) → Text → ℕ
span f [] = 0
span f (c ∷ cs) = cond (f c) (suc (span f cs)) 0

-- from a place on over the bytes that pass a test, and back over them
unfoldable pub skip_forward : (ℕ → Bool) → Text → ℕ → ℕ
skip_forward f t a = a + span f (drop a t)

unfoldable pub skip_back : (ℕ → Bool) → Text → ℕ → ℕ
skip_back f t zero = zero
skip_back f t (suc a) = cond (f (byte t a)) (skip_back f t a) (suc a)

-- the line of a place: where its line end stands, or the text's end; where it begins; how far into it the place is
abbrev pub is_in_line : ℕ → Bool
is_in_line c = not (is_newline c)

unfoldable pub line_end : Text → ℕ → ℕ
line_end t a = skip_forward is_in_line t a

unfoldable pub line_start : Text → ℕ → ℕ
line_start t a = skip_back is_in_line t a

unfoldable pub column : Text → ℕ → ℕ
column t a = a - line_start t a

-- which line a place is in, and how many there are
unfoldable pub newlines : Text → ℕ
newlines [] = 0
newlines (c ∷ cs) = cond (is_newline c) 1 0 + newlines cs

unfoldable pub line_of : Text → ℕ → ℕ
line_of t a = newlines (take a t)

unfoldable pub line_count : Text → ℕ
line_count t = suc (newlines t)

-- where the line begins that is n lines below the line that begins at a; behind the last line, where the last begins
unfoldable pub lines_below : Text → ℕ → ℕ → ℕ
lines_below t a zero = a
lines_below t a (suc n) =
    cond (nat_lt (line_end t a) (length t)) (lines_below t (suc (line_end t a)) n) a

-- where line n begins
unfoldable pub nth_line : Text → ℕ → ℕ
nth_line t n = lines_below t 0 n

-- the last place in the line of a place on which the cursor may stand outside of inserting
unfoldable pub last_in_line : Text → ℕ → ℕ
last_in_line t a = cond (nat_lt (line_start t a) (line_end t a)) (line_end t a - 1) (line_start t a)

-- the place in the line of a place at a column, or the line's last
unfoldable pub at_column : Text → ℕ → ℕ → ℕ
at_column t a c = min (line_start t a + c) (last_in_line t a)

-- the first byte in the line of a place that is no blank, or the line's last
unfoldable pub first_nonblank : Text → ℕ → ℕ
first_nonblank t a = min (skip_forward is_blank t (line_start t a)) (last_in_line t a)

-- the place, or, where the cursor may not stand there outside of inserting, the last in its line
unfoldable pub clamp : Text → ℕ → ℕ
clamp t a = min a (last_in_line t (min a (length t)))
