use Rattle.std.proofs.Common.{length}
use Rattle.rope_read.specs.Text.{text}
use Rattle.rope_text.proofs.balance.+measure.Given as goal

abbrev pub decreases-measure : goal.decreases-measure
decreases-measure g l = length (text (g.W.Words.row l.words.now) l.p.0)
