-- Bytes that lead from one picture to another, row by row.
use Rattle.std.specs.Prelude.{◌≡◌, ℕ, ◌+◌, ◌-◌, ◌<◌, ◌≤◌, Bool, cond, ◌&&◌, List, [], ◌++◌, length, take, drop, replicate, MatchBool, ◌==◌, slice_index_or, slice_range, slice_set}
use Rattle.std.specs.List.{AllByRecursion}
use Rattle.spec.specs.Editor.{Ed}
use Rattle.spec.specs.Screen.{Row, Picture, blank, picture}
use Rattle.spec.specs.Promises.{Draws, Sees}
use Rattle.terminals.specs.Sequences.{Printable, move_bytes, clear_bytes, overwritten}

abbrev pub showing : List Row → ℕ → ℕ → Picture
showing g r c = record { rows = g; cursor_row = r; cursor_column = c }

pub record Rectangle (rows columns : ℕ) (g : List Row) : Type 0 where
  pub height : length g ≡ rows
  pub width : AllByRecursion (λ (r : Row). length r ≡ columns) g

-- a picture that can be drawn on a screen of a size of which a terminal can be told
pub record Drawable (rows columns : ℕ) (p : Picture) : Type 0 where
  pub rectangle : Rectangle rows columns p.rows
  pub printable : AllByRecursion Printable p.rows
  pub row_within : p.cursor_row < rows
  pub column_within : p.cursor_column < columns
  pub few_rows : rows ≤ 9999
  pub few_columns : columns ≤ 9999

-- bytes that turn row i from old to new on every screen of a size, with the cursor first at r and c, then at r' and c'
abbrev pub TurnsRow : (rows columns i : ℕ) (old new : Row) (r c r' c' : ℕ) → List ℕ → Type 0
TurnsRow rows columns i old new r c r' c' bs = (g : List Row) → Rectangle rows columns g → slice_index_or g i [] ≡ old → Draws (showing g r c) (showing (slice_set g i new) r' c') bs

-- a move, or nothing where the cursor is there already
abbrev pub step_bytes : (r c r' c' : ℕ) → List ℕ
step_bytes r c r' c' = cond (r == r' && c == c') [] (move_bytes r' c')

-- How a row is turned from old to new: the cells from a to b are written, and the rest is cleared or left.
pub record Updates (old new : Row) (a b : ℕ) (clear : Bool) : Type 0 where
  pub same_before : take a old ≡ take a new
  pub from_within : a < length new
  pub ordered : a ≤ b
  pub to_within : b ≤ length new
  pub rest : MatchBool clear (drop b new ≡ replicate (length new - b) blank) (drop b old ≡ drop b new)

-- what is sent for it, behind the move
abbrev pub update_bytes : Row → ℕ → ℕ → Bool → List ℕ
update_bytes new a b clear = slice_range new a b ++ cond clear clear_bytes []

-- The theorems on terminals that are outside of a sequence.
abbrev pub Moves : Type 0
Moves = (g : List Row) (r₀ c₀ r c : ℕ) → r < 9999 → c < 9999 → r < length g → c < length (slice_index_or g 0 []) → Draws (showing g r₀ c₀) (showing g r c) (move_bytes r c)

abbrev pub Runs : Type 0
Runs = (g : List Row) (r c : ℕ) (s : Row) → Printable s → r < length g → c + length s ≤ length (slice_index_or g r []) → Draws (showing g r c) (showing (slice_set g r (overwritten (slice_index_or g r []) c s)) r (c + length s)) s

abbrev pub Clears : Type 0
Clears = (g : List Row) (r c : ℕ) → c ≤ length (slice_index_or g r []) → Draws (showing g r c) (showing (slice_set g r (take c (slice_index_or g r []) ++ replicate (length (slice_index_or g r []) - c) blank)) r c) clear_bytes

abbrev pub InSequence : Type 0
InSequence = (p q r : Picture) (a b : List ℕ) → Draws p q a → Draws q r b → Draws p r (a ++ b)

-- Sending nothing is right exactly if the pictures are equal, cursors included.
abbrev pub NothingToSend : Type 0
NothingToSend = (p q : Picture) → (Draws p q [] → p ≡ q) × (p ≡ q → Draws p q [])

-- What an editor's screen shows can be drawn, where the cursor is seen.
abbrev pub PicturesDrawable : Type 0
PicturesDrawable = (e : Ed) → Sees e → e.view.rows ≤ 9999 → e.view.columns ≤ 9999 → Drawable e.view.rows e.view.columns (picture e)
