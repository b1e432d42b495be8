use Rattle.std.proofs.Common.{◌≡◌, ◌+◌, ◌*◌, ◌≤◌, length}
use Rattle.ropes.specs.Rope.{height}
use Rattle.rope_read.specs.Text.{text}
use Rattle.rope_read.proofs.Descents.{Down}
use Rattle.rope_read.proofs.locating.locate.Given as goal

abbrev pub invariant-loop-words : goal.invariant-loop-words
invariant-loop-words g l =
    record {
      same : g.W.Words.row l.words ≡ g.W.Words.row l.initial.words;
      down : Down g.By.Sum.sums g.Of.Sum.sums (g.W.Words.row l.initial.words) l.fn.p.0 l.n l.part.0 l.by l.of;
      cost : g.W.Words.touched l.words + 4 * height down.lends.rope ≤ g.W.Words.touched l.initial.words + 140;
    }

abbrev pub decreases-loop-words : goal.decreases-loop-words
decreases-loop-words g l = length (text (g.W.Words.row l.words) l.part.0)
