use Rattle.terminals.proofs.Drawing.{draws_run}
use Rattle.terminals.proofs.runs.Goals as goal

pub returns : goal.returns
returns c = draws_run
