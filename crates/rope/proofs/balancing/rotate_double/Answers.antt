use Rattle.rope.proofs.Holds.{none_held}
use Rattle.rope.proofs.Rotates.{peak_opening, double_first, double_making, double_dropped, double_second, double_released, double_last, doubled}
use Rattle.rope.proofs.balancing.rotate_double.Goals as goal

pub halve-requires : goal.halve-requires
halve-requires g c = peak_opening c.args.side c.requires

pub node_on-requires : goal.node_on-requires
node_on-requires g c = double_first c.args.side c.requires c.halve.ensures.halved

pub release_both-requires : goal.release_both-requires
release_both-requires g c = double_making c.args.side c.requires c.halve.ensures.halved c.in_default.ensures.joins

pub returns-in_default-clause-doubles : goal.returns-in_default-clause-doubles
returns-in_default-clause-doubles g c =
    let h = c.halve.ensures in
    let gone = c.release_both.ensures in
    record { runs = λ x. double_dropped c.args.side x h.halved c.in_default.ensures.joins _ gone.dropped gone.touches h.kept.long h.touches }

pub node_on-y-requires : goal.node_on-y-requires
node_on-y-requires g c = double_second c.args.side c.requires c.halve.ensures.halved c.in-Some.ensures.joins

pub or_release-requires : goal.or_release-requires
or_release-requires g c = none_held (c.node_on-y.ensures.joins.runs (double_second c.args.side c.requires c.halve.ensures.halved c.in-Some.ensures.joins))

pub returns-in_err-y-clause-doubles : goal.returns-in_err-y-clause-doubles
returns-in_err-y-clause-doubles g c =
    let h = c.halve.ensures in
    let one = c.in-Some.ensures in
    let gone = c.in_err-y.ensures in
    let none = rw (← gone.value) at c.node_on-y.ensures.joins in
    rw c.from_residual.ensures (record { runs = λ x. double_released c.args.side x h.halved one.joins none _ gone.released gone.touches h.kept.long h.touches one.kept.long })

pub node_on-requires-2 : goal.node_on-requires-2
node_on-requires-2 g c =
    let kept = c.in_ok-y.ensures in
    let two = rw (← kept.value) at c.node_on-y.ensures.joins in
    rw kept.released (double_last c.args.side c.requires c.halve.ensures.halved c.in-Some.ensures.joins two)

pub returns-clause-doubles : goal.returns-clause-doubles
returns-clause-doubles g c =
    let h = c.halve.ensures in
    let one = c.in-Some.ensures in
    let kept = c.in_ok-y.ensures in
    let two = rw (← kept.value) at c.node_on-y.ensures.joins in
    let three = rw (kept.released, kept.touches) at c.node_on-2.ensures.joins in
    record { runs = λ x. doubled c.args.side x h.halved one.joins two _ three h.kept.long h.touches one.kept.long c.node_on-y.ensures.kept.long }
