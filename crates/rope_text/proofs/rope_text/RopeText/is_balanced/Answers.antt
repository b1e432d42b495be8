use Rattle.rope_text.proofs.Holdings.{stands_lends}
use Rattle.rope_text.proofs.rope_text.RopeText.is_balanced.Goals as goal

pub is_balanced-requires : goal.is_balanced-requires
is_balanced-requires g c = stands_lends c.self.invariant
