use Rattle.rope.proofs.Makings.{two_ordered, joins_on, fit_swap}
use Rattle.rope.proofs.making.node_on.Goals as goal

pub node-requires : goal.node-requires
node-requires g c = rw c.ordered.ensures (two_ordered c.args.side _ _ fit_swap c.requires)

pub returns-clause-joins : goal.returns-clause-joins
returns-clause-joins g c = joins_on c.args.side _ _ fit_swap (rw c.ordered.ensures at c.node.ensures.joins)
