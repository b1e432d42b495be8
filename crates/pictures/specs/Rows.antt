-- Cells one row behind the other.
use Rattle.std.specs.Prelude.{◌≡◌, ℕ, zero, suc, ◌*◌, ◌<◌, ◌≤◌, Bool, true, ◌&&◌, List, [], ◌∷◌, length, take, drop}
use Rattle.spec.specs.Bytes.{is_printable}
use Rattle.spec.specs.Screen.{Row, Picture}

-- so many rows of a width
unfoldable pub rows_of : ℕ → ℕ → List ℕ → List Row
rows_of zero columns cells = []
rows_of (suc n) columns cells = take columns cells ∷ rows_of n columns (drop columns cells)

abbrev pub picture_of : ℕ → ℕ → List ℕ → ℕ → ℕ → Picture
picture_of rows columns cells r c = record { rows = rows_of rows columns cells; cursor_row = r; cursor_column = c }

abbrev pub all_printable : List ℕ → Bool
all_printable [] = true
all_printable (c ∷ cs) = is_printable c && all_printable cs

-- cells that are a picture of a size, with the cursor within
pub record Valid (rows columns : ℕ) (cells : List ℕ) (r c : ℕ) : Type 0 where
  pub few_rows : rows ≤ 9999
  pub few_columns : columns ≤ 9999
  pub filled : length cells ≡ rows * columns
  pub row_within : r < rows
  pub column_within : c < columns
  pub printable : all_printable cells ≡ true
