use Rattle.laws.proofs.UndoAll.{back_and_forth}
use Rattle.laws.proofs.history.back_and_forth.Goals as goal

pub returns : goal.returns
returns c = back_and_forth
