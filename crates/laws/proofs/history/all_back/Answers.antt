use Rattle.laws.proofs.UndoAll.{all_back}
use Rattle.laws.proofs.history.all_back.Goals as goal

pub returns : goal.returns
returns c = all_back
