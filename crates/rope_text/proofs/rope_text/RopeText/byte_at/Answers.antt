use Rattle.rope_text.proofs.Holdings.{stands_lends}
use Rattle.rope_text.proofs.rope_text.RopeText.byte_at.Goals as goal

pub byte_at-requires-clause-rope : goal.byte_at-requires-clause-rope
byte_at-requires-clause-rope g c = stands_lends c.self.invariant
