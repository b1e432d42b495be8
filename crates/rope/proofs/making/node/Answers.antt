use Rattle.rope.proofs.Makings.{placed, node_placed}
use Rattle.rope.proofs.making.node.Goals as goal

pub returns-clause-joins : goal.returns-clause-joins
returns-clause-joins g c =
    let d = c.data_of-data.ensures in
    node_placed _ d.value (placed c.make.result (rw d.same at c.make.ensures.made) c.make.ensures.touches) d.touches
