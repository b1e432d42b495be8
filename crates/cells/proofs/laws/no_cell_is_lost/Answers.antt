use Rattle.cells.proofs.Reaches.{no_cell_lost}
use Rattle.cells.proofs.laws.no_cell_is_lost.Goals as goal

pub returns : goal.returns
returns c = no_cell_lost
