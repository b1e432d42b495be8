use Rattle.rope_text.proofs.Holdings.{stands_lends}
use Rattle.rope_text.proofs.rope_text.RopeText.seek.Goals as goal

pub seek-requires-clause-rope : goal.seek-requires-clause-rope
seek-requires-clause-rope g c = stands_lends c.self.invariant
