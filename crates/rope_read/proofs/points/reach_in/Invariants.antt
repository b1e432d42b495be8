use Rattle.std.proofs.Common.{◌≡◌, ℕ, ◌<◌, ◌≤◌, take}
use Rattle.rope_cells.specs.LeafBytes.{items}
use Rattle.rope_read.proofs.points.reach_in.Given as goal

abbrev pub invariant-loop-k : goal.invariant-loop-k
invariant-loop-k g l =
    record {
      is : l.sum ≡ g.S.Sum.sums (take l.k (items l.part));
      within : l.sum ≤ l.n;
      less : (q : ℕ) → q < l.k → g.S.Sum.sums (take q (items l.part)) < l.n;
    }
