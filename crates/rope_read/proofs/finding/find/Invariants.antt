use Rattle.std.proofs.Common.{◌≡◌, ◌+◌, ◌-◌, ◌*◌, ◌<◌, ◌≤◌, min}
use Rattle.rope_read.specs.Text.{text}
use Rattle.rope_read.specs.Finding.{Absent}
use Rattle.rope_read.proofs.finding.find.Given as goal

abbrev pub invariant-loop-at : goal.invariant-loop-at
invariant-loop-at g l =
    record {
      same : g.W.Words.row l.words ≡ g.W.Words.row l.initial.words;
      from : l.from ≤ l.at;
      absent : Absent (text (g.W.Words.row l.initial.words) l.p.0) l.from (min l.at l.to) l.byte;
      cost : l.at < l.to → g.W.Words.touched l.words ≤ g.W.Words.touched l.initial.words + 4 * (l.at - l.from);
      total : g.W.Words.touched l.words ≤ g.W.Words.touched l.initial.words + 4 * (l.to - l.from) + 234;
    }
