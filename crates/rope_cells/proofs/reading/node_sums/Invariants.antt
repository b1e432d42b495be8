use Rattle.std.proofs.Common.{◌≡◌, ℕ, ◌+◌, ◌<◌, ◌≤◌, get_or}
use Rattle.ropes.specs.Rope.{bytes}
use Rattle.ropes.specs.Layout.{sum_at}
use Rattle.rope_cells.specs.Lending.{LendsNode}
use Rattle.rope_cells.proofs.reading.node_sums.Given as goal

abbrev pub invariant-loop-k : goal.invariant-loop-k
invariant-loop-k g l =
    (g.W.Words.row l.words ≡ g.W.Words.row l.initial.words)
    × (g.W.Words.touched l.words ≤ g.W.Words.touched l.initial.words + l.k)
    × ((x : LendsNode (g.W.Words.row l.initial.words) l.p.0) (j : ℕ) → j < l.k → get_or l.sum-items j 0 ≡ sum_at (bytes x.lends.rope) j)
