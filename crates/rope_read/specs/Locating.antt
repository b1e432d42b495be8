-- The leaf of a text in which a sum is reached.
use Rattle.std.specs.Prelude.{◌≡◌, ℕ, ◌+◌, ◌<◌, ◌≤◌, List, ◌++◌, length}
use Rattle.rope_cells.specs.LeafBytes.{items}
use Rattle.rope_read.specs.declared.locating.Spot.{Spot}

-- r is the leaf of t in which the sum `by` reaches n, with this sum and the sum `of` of the bytes before it
pub record Located (by of : List ℕ → ℕ) (t : List ℕ) (n : ℕ) (r : Spot) : Type 0 where
  pub before : List ℕ
  pub behind : List ℕ
  pub whole : t ≡ before ++ (items r.leaf ++ behind)
  pub by_is : r.by ≡ by before
  pub of_is : r.of ≡ of before
  pub reach : n ≤ by before + by (items r.leaf)
  pub late : 1 ≤ length before → by before < n
