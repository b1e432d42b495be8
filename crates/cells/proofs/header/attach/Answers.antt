use Rattle.cells.proofs.Trees.{has_trees}
use Rattle.cells.proofs.header.attach.Goals as goal

pub returns : goal.returns
returns g c = has_trees _ _ c.requires
