use Rattle.laws.proofs.Sight.{in_sight}
use Rattle.laws.proofs.cursor.in_sight.Goals as goal

pub returns : goal.returns
returns c = in_sight
