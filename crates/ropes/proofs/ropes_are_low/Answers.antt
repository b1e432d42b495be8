use Rattle.ropes.proofs.Depths.{height_low}
use Rattle.ropes.proofs.ropes_are_low.Goals as goal

pub returns : goal.returns
returns c = height_low
