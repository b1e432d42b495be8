use Rattle.rope_text.proofs.Holdings.{stands_lends}
use Rattle.rope_text.proofs.rope_text.RopeText.find_back.Goals as goal

pub find_back-requires-clause-rope : goal.find_back-requires-clause-rope
find_back-requires-clause-rope g c = stands_lends c.self.invariant
