use Rattle.ropes.specs.Layout.{sums_of}
use Rattle.rope_cells.proofs.sums.sums_of.Goals as goal

pub returns : goal.returns
unfolding sums_of
returns c = cc
