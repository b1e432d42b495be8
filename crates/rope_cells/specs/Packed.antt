-- What is asked of what is packed.
use Rattle.std.specs.Prelude.{ℕ, ◌+◌, ◌<◌, List, slice_index}

-- sums of two ropes that stand side by side
pub record Addable (l r : List ℕ) : Type 0 where
  pub each : (k : ℕ) → slice_index l k + slice_index r k < 4294967296
