use Rattle.std.proofs.Common.{◌≡◌, ◌+◌, ◌*◌, ◌≤◌, length, take}
use Rattle.cells.specs.Layout.{over}
use Rattle.cells.proofs.content.store.Given as goal

abbrev pub invariant-loop-k : goal.invariant-loop-k
invariant-loop-k g l =
    record {
      written : g.W.Words.row l.words ≡ over (g.W.Words.row l.initial.words) (16 * l.p.0 + 3) (take l.k l.x-items);
      long : length (g.W.Words.row l.words) ≡ length (g.W.Words.row l.initial.words);
      touches : g.W.Words.touched l.words ≤ g.W.Words.touched l.initial.words + l.k;
    }
