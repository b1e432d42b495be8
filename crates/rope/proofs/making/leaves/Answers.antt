use Rattle.rope.proofs.Holds.{none_held}
use Rattle.rope.proofs.Makings.{leaves_none, leaf_second, leaves_one, leaves_both}
use Rattle.rope.proofs.making.leaves.Goals as goal

pub returns-in_err-front-clause-leaves : goal.returns-in_err-front-clause-leaves
returns-in_err-front-clause-leaves g c = rw c.from_residual.ensures (leaves_none c.in_err-front.ensures.leafed)

pub leaf-back-requires-clause-heap : goal.leaf-back-requires-clause-heap
leaf-back-requires-clause-heap g c = leaf_second c.in_ok-front.ensures.leafed c.requires.heap

pub or_release-requires : goal.or_release-requires
or_release-requires g c = none_held (c.leaf-back.ensures.leafed.runs (leaf_second c.in_ok-front.ensures.leafed c.requires.heap))

pub returns-in_err-back-clause-leaves : goal.returns-in_err-back-clause-leaves
returns-in_err-back-clause-leaves g c =
    let gone = c.in_err-back.ensures in
    let none = rw (← gone.value) at c.leaf-back.ensures.leafed in
    rw c.from_residual-in_err-back.ensures (leaves_one c.in_ok-front.ensures.leafed none gone.released gone.touches c.in_ok-front.ensures.kept.long)

pub returns-clause-leaves : goal.returns-clause-leaves
returns-clause-leaves g c =
    let kept = c.in_ok-back.ensures in
    let back = rw (← kept.value) at c.leaf-back.ensures.leafed in
    rw (kept.released, kept.touches) (leaves_both c.in_ok-front.ensures.leafed back)
