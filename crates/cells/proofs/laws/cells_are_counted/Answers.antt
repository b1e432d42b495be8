use Rattle.cells.proofs.Reaches.{counting}
use Rattle.cells.proofs.laws.cells_are_counted.Goals as goal

pub returns : goal.returns
returns c = counting
