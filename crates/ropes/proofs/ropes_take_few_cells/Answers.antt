use Rattle.ropes.proofs.Depths.{cells_few}
use Rattle.ropes.proofs.ropes_take_few_cells.Goals as goal

pub returns : goal.returns
returns c = cells_few
