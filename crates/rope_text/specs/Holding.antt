-- One rope in a row of words, and what is held beside it while it is changed.
use Rattle.std.specs.Prelude.{◌≡◌, ℕ, List, [], ◌∷◌, Some, None, Option}
use Rattle.cells.specs.declared.cell.Ref.{Ref}
use Rattle.cells.specs.Have.{item, Have}
use Rattle.ropes.specs.Rope.{Rope, bytes}
use Rattle.rope_cells.specs.Coded.{code}
use Rattle.rope.specs.Cutting.{Short}
use Rattle.rope_read.specs.Text.{text}

-- a rope of the bytes xs is held, and nothing else
pub record Stands (m : List ℕ) (p : ℕ) (xs : List ℕ) : Type 0 where
  pub rope : Rope
  pub fit : Short rope
  pub have : Have m (item p (code rope) ∷ [])
  pub is : bytes rope ≡ xs

-- a rope is held, and nothing else
abbrev pub Holds : List ℕ → ℕ → Type 0
Holds m p = Stands m p (text m p)

-- a rope d of the bytes ys is held beside one of the bytes xs, and nothing else
pub record Beside (m : List ℕ) (p : ℕ) (xs : List ℕ) (d : ℕ) (ys : List ℕ) : Type 0 where
  pub rope : Rope
  pub new : Rope
  pub fit : Short rope
  pub fit_new : Short new
  pub have : Have m (item d (code new) ∷ (item p (code rope) ∷ []))
  pub is : bytes rope ≡ xs
  pub is_new : bytes new ≡ ys

-- one of the bytes ys was made beside one of the bytes xs, or there was no room
abbrev pub Offered : List ℕ → ℕ → List ℕ → Option Ref → List ℕ → Type 0
Offered m p xs None ys = Stands m p xs
Offered m p xs (Some d) ys = Beside m p xs d.0 ys

-- which of the two is to be held from now on
pub record Settling (m : List ℕ) (p : ℕ) (d : Option Ref) : Type 0 where
  pub old : List ℕ
  pub new : List ℕ
  pub offered : Offered m p old d new
