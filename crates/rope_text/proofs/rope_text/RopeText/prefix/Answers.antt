use Rattle.rope_text.proofs.Holdings.{stands_lends}
use Rattle.rope_text.proofs.rope_text.RopeText.prefix.Goals as goal

pub prefix-requires : goal.prefix-requires
prefix-requires g c = record { rope = stands_lends c.self.invariant }
