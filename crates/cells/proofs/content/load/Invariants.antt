use Rattle.std.proofs.Common.{◌≡◌, ◌+◌, ◌≤◌, take, drop}
use Rattle.cells.specs.Layout.{cell}
use Rattle.cells.proofs.content.load.Given as goal

abbrev pub invariant-loop-k : goal.invariant-loop-k
invariant-loop-k g l =
    record {
      same : g.W.Words.row l.words ≡ g.W.Words.row l.initial.words;
      read : take l.k l.x-items ≡ take l.k (drop 3 (cell (g.W.Words.row l.initial.words) l.p.0));
      touches : g.W.Words.touched l.words ≤ g.W.Words.touched l.initial.words + l.k;
    }
