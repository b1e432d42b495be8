use Rattle.cells.proofs.Headers.{longer_row}
use Rattle.cells.proofs.laws.longer_row_holds.Goals as goal

pub returns : goal.returns
returns c = longer_row
