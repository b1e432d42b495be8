use Rattle.terminals.proofs.Drawing.{draws_clear}
use Rattle.terminals.proofs.clears.Goals as goal

pub returns : goal.returns
returns c = draws_clear
