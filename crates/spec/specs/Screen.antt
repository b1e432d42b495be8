-- What the screen shows of an editor.
use Rattle.std.specs.Prelude.{ℕ, zero, suc, ◌+◌, ◌-◌, ◌/◌, ◌%◌, cond, List, [], ◌∷◌, ◌++◌, map, take, drop, replicate, ◌==◌, nat_lt}
use Rattle.spec.specs.Bytes.{ascii, tab, space, is_printable}
use Rattle.spec.specs.Text.{Text, part, line_end, column, line_of, line_count, nth_line}
use Rattle.spec.specs.Editor.{Ed}

-- what one character's room on the screen holds: a printable byte
abbrev pub Cell : Type 0
Cell = ℕ

abbrev pub Row : Type 0
Row = List Cell

abbrev pub blank : Cell
blank = space

-- rows of one width, and where the cursor is seen
pub record Picture : Type 0 where
  pub rows : List Row
  pub cursor_row : ℕ
  pub cursor_column : ℕ

-- a byte of the text as it is shown
abbrev pub shown : ℕ → Cell
shown c = cond (c == tab) blank (cond (is_printable c) c (ascii "?"))

-- a row of a width: cut, or with blanks behind
abbrev pub fitted : ℕ → Row → Row
fitted n cs = take n (cs ++ replicate n blank)

-- line l from the left column on; rows behind the text have a ~
unfoldable pub text_row : Ed → ℕ → Row
text_row e l =
    cond (nat_lt l (line_count e.text))
    (fitted e.view.columns (map shown (take e.view.columns (drop e.view.left (line_from (nth_line e.text l))))))
    (fitted e.view.columns (ascii "~" ∷ []))
  where
    line_from : ℕ → Text
    line_from a = part e.text a (line_end e.text a)

-- the digits of a number before others; twenty are enough for any that is met
unfoldable pub digits_before : ℕ → ℕ → Row → Row
digits_before zero n cs = cs
digits_before (suc k) n cs =
    cond (nat_lt n 10) ((ascii "0" + n) ∷ cs) (digits_before k (n / 10) ((ascii "0" + n % 10) ∷ cs))

unfoldable pub decimal : ℕ → Row
decimal n = digits_before 20 n []

-- N, or I while inserting; the cursor's line and column, counted from 1
unfoldable pub status_row : Ed → Row
status_row e =
    fitted e.view.columns (cond e.inserting (ascii "I") (ascii "N") ∷ blank ∷
    (decimal (1 + line_of e.text e.cursor) ++ (ascii "," ∷ decimal (1 + column e.text e.cursor))))

-- n rows from line l on
unfoldable pub text_rows : Ed → ℕ → ℕ → List Row
text_rows e zero l = []
text_rows e (suc n) l = text_row e l ∷ text_rows e n (suc l)

-- the last row is the status row
unfoldable pub picture : Ed → Picture
picture e = record { rows = text_rows e (e.view.rows - 1) e.view.top ++ (status_row e ∷ []); cursor_row = line_of e.text e.cursor - e.view.top; cursor_column = column e.text e.cursor - e.view.left }
