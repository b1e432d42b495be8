use Rattle.rope.proofs.Makings.{leaf_making, placed, leaf_placed}
use Rattle.rope.proofs.making.leaf.Goals as goal

pub make-requires : goal.make-requires
make-requires g c = leaf_making c.requires.heap

pub returns-clause-leafed : goal.returns-clause-leafed
returns-clause-leafed g c = leaf_placed c.pack-data.ensures.value (placed c.make.result c.make.ensures.made c.make.ensures.touches)
