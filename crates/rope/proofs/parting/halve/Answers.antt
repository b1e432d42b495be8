use Rattle.rope.proofs.Partings.{halved_on}
use Rattle.rope.proofs.parting.halve.Goals as goal

pub returns-clause-halved : goal.returns-clause-halved
returns-clause-halved g c = rw c.ordered.ensures (halved_on c.args.side _ _ c.part-children.ensures.parted)
