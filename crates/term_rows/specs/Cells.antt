-- Rows compared cell by cell.
use Rattle.std.specs.Prelude.{◌≡◌, ℕ, ◌<◌, ◌≤◌, length, slice_index}
use Rattle.spec.specs.Screen.{Row, blank}

-- the same cells from a to b
abbrev pub SameCells : (old new : Row) (a b : ℕ) → Type 0
SameCells old new a b = (k : ℕ) → a ≤ k → k < b → slice_index old k ≡ slice_index new k

-- blanks from a on
abbrev pub BlankCells : Row → ℕ → Type 0
BlankCells row a = (k : ℕ) → a ≤ k → k < length row → slice_index row k ≡ blank
