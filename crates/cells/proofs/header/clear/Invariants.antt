use Rattle.std.proofs.Common.{◌≡◌, ◌+◌, ◌≤◌, length}
use Rattle.cells.specs.Layout.{cleared}
use Rattle.cells.proofs.header.clear.Given as goal

abbrev pub invariant-loop-i : goal.invariant-loop-i
invariant-loop-i g l =
    (g.W.Words.row l.words ≡ cleared (g.W.Words.row l.initial.words) l.i)
    × (length (g.W.Words.row l.words) ≡ length (g.W.Words.row l.initial.words))
    × (g.W.Words.touched l.words ≤ g.W.Words.touched l.initial.words + l.i)
