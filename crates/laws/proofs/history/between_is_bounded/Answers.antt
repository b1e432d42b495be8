use Rattle.laws.proofs.MovedWeights.{between_is_bounded}
use Rattle.laws.proofs.history.between_is_bounded.Goals as goal

pub returns : goal.returns
returns c = between_is_bounded
