use Rattle.rope.proofs.Holds.{none_held}
use Rattle.rope.proofs.Cuttings.{beside_two, joins_beside}
use Rattle.rope.proofs.cutting.concat_beside.Goals as goal

pub concat-joined-requires : goal.concat-joined-requires
concat-joined-requires g c = beside_two c.requires

pub or_release-requires : goal.or_release-requires
or_release-requires g c = none_held (c.concat-joined.ensures.joins.runs (beside_two c.requires))

pub returns-clause-joins : goal.returns-clause-joins
returns-clause-joins g c =
    let gone = c.or_release.ensures in
    let joins = rw (← gone.value) at c.concat-joined.ensures.joins in
    joins_beside _ joins gone.released gone.touches
