use Rattle.std.proofs.Common.{◌∙◌}
use Rattle.rope_text.proofs.Holdings.{stands_holds, stands_text}
use Rattle.rope_text.proofs.rope_text.RopeText.slice_len.Goals as goal

pub invariant_of-self : goal.invariant_of-self
invariant_of-self g c = stands_holds c.slice_len.ensures.stands

pub returns-clause-same : goal.returns-clause-same
returns-clause-same g c = stands_text c.slice_len.ensures.stands ∙ c.self.view_is
