use Rattle.laws.proofs.UndoAll.{all_forth}
use Rattle.laws.proofs.history.all_forth.Goals as goal

pub returns : goal.returns
returns c = all_forth
