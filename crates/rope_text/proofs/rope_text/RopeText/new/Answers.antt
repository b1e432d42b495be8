use Rattle.rope_text.proofs.Holdings.{begun_stands, stands_holds, stands_text}
use Rattle.rope_text.proofs.rope_text.RopeText.new.Goals as goal

pub invariant_of-result : goal.invariant_of-result
invariant_of-result g c = stands_holds (begun_stands c.new.ensures.begun)

pub returns : goal.returns
returns g c = stands_text (begun_stands c.new.ensures.begun)
