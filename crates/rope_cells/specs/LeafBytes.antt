-- The bytes of a leaf.
use Rattle.std.specs.Prelude.{◌≡◌, ℕ, ◌<◌, ◌≤◌, List, length, take, slice_index}
use Rattle.ropes.specs.Rope.{leaf_max}
use Rattle.rope_cells.specs.declared.leaf_bytes.Leaf.{Leaf}

unfoldable pub items : Leaf → List ℕ
items s = take s.len s.bytes

-- these are the bytes of the leaf, with zeros behind them
pub record LeafIs (s : Leaf) (xs : List ℕ) : Type 0 where
  pub long : s.len ≡ length xs
  pub few : length xs ≤ leaf_max
  pub room : length s.bytes ≡ leaf_max
  pub each : (i : ℕ) → i < leaf_max → slice_index s.bytes i ≡ slice_index xs i
