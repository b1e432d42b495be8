use Rattle.rope_text.proofs.Holdings.{stands_lends}
use Rattle.rope_text.proofs.rope_text.RopeText.read.Goals as goal

pub read-requires-clause-rope : goal.read-requires-clause-rope
read-requires-clause-rope g c = stands_lends c.self.invariant
