use Rattle.terminals.proofs.Drawing.{draws_nothing}
use Rattle.terminals.proofs.nothing_to_send.Goals as goal

pub returns : goal.returns
returns c = draws_nothing
