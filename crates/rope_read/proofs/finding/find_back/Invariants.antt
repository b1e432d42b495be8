use Rattle.std.proofs.Common.{◌≡◌, ◌+◌, ◌-◌, ◌*◌, ◌<◌, ◌≤◌, max}
use Rattle.rope_read.specs.Text.{text}
use Rattle.rope_read.specs.Finding.{Absent}
use Rattle.rope_read.proofs.finding.find_back.Given as goal

abbrev pub invariant-loop-behind : goal.invariant-loop-behind
invariant-loop-behind g l =
    record {
      same : g.W.Words.row l.words ≡ g.W.Words.row l.initial.words;
      absent : Absent (text (g.W.Words.row l.initial.words) l.p.0) (max l.from (l.to - l.behind)) l.to l.byte;
      cost : l.behind < l.to - l.from → g.W.Words.touched l.words ≤ g.W.Words.touched l.initial.words + 4 * l.behind;
      total : g.W.Words.touched l.words ≤ g.W.Words.touched l.initial.words + 4 * (l.to - l.from) + 234;
    }
