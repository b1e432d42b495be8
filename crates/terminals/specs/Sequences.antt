-- What is sent: the bytes of a cursor move and of a clear.
use Rattle.std.specs.Prelude.{◌≡◌, ℕ, ◌+◌, true, cond, List, [], ◌∷◌, ◌++◌, length, take, drop, ◌==◌}
use Rattle.std.specs.List.{AllByRecursion}
use Rattle.spec.specs.Bytes.{ascii, escape, is_printable}
use Rattle.spec.specs.Screen.{Row, decimal}

-- the number of a row or a column that is counted from 0; a 1 is left out
abbrev pub row_number : ℕ → List ℕ
row_number r = cond (r == 0) [] (decimal (r + 1))

abbrev pub column_number : ℕ → List ℕ
column_number c = cond (c == 0) [] (ascii ";" ∷ decimal (c + 1))

-- ESC [ row ; column H
abbrev pub move_bytes : ℕ → ℕ → List ℕ
move_bytes r c = escape ∷ ascii "[" ∷ (row_number r ++ (column_number c ++ (ascii "H" ∷ [])))

-- ESC [ K
abbrev pub clear_bytes : List ℕ
clear_bytes = escape ∷ ascii "[" ∷ ascii "K" ∷ []

-- every cell can be written
abbrev pub Printable : Row → Type 0
Printable cs = AllByRecursion (λ (c : ℕ). is_printable c ≡ true) cs

-- a row with the cells from c on replaced by s
abbrev pub overwritten : Row → ℕ → Row → Row
overwritten cs c s = take c cs ++ (s ++ drop (c + length s) cs)
