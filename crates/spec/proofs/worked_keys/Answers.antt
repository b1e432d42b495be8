use Rattle.spec.proofs.Worked.{worked_keys}
use Rattle.spec.proofs.worked_keys.Goals as goal

pub returns : goal.returns
returns c = worked_keys
