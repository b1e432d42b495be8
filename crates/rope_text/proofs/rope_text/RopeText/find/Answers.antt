use Rattle.rope_text.proofs.Holdings.{stands_lends}
use Rattle.rope_text.proofs.rope_text.RopeText.find.Goals as goal

pub find-requires-clause-rope : goal.find-requires-clause-rope
find-requires-clause-rope g c = stands_lends c.self.invariant
