use Rattle.terminals.proofs.Drawing.{draws_move}
use Rattle.terminals.proofs.moves.Goals as goal

pub returns : goal.returns
returns c = draws_move
