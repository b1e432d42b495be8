use Rattle.cells.proofs.Trees.{has_trees}
use Rattle.cells.proofs.laws.held_have_trees.Goals as goal

pub returns : goal.returns
returns c = has_trees
