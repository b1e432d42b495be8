use Rattle.std.proofs.Common.{◌≡◌, ℕ, ◌<◌, get_or}
use Rattle.ropes.specs.Layout.{digit}
use Rattle.rope_cells.proofs.packed.leaf_sums.Given as goal

abbrev pub invariant-loop-k : goal.invariant-loop-k
invariant-loop-k l = (j : ℕ) → j < l.k → get_or l.sum-items j 0 ≡ digit l.tag j
