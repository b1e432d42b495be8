use Rattle.terminals.proofs.Drawing.{draws_append}
use Rattle.terminals.proofs.in_sequence.Goals as goal

pub returns : goal.returns
returns c = draws_append
