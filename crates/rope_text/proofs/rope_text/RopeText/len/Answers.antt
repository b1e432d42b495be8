use Rattle.rope_text.proofs.Holdings.{stands_lends}
use Rattle.rope_text.proofs.rope_text.RopeText.len.Goals as goal

pub len-requires : goal.len-requires
len-requires g c = record { rope = stands_lends c.self.invariant }
