-- Leaves that are lent.
use Rattle.std.specs.Prelude.{◌≡◌, ℕ, List}
use Rattle.ropes.specs.Rope.{leaf}
use Rattle.rope_cells.specs.Lending.{Lends}

-- p refers to a leaf that is lent
pub record LendsLeaf (m : List ℕ) (p : ℕ) : Type 0 where
  pub lends : Lends m p
  pub xs : List ℕ
  pub is : lends.rope ≡ leaf xs
