use Rattle.std.proofs.Common.{ℕ, sym, ◌∙◌, arith}
use Rattle.rope.proofs.Holds.{none_held}
use Rattle.rope.proofs.Makings.{two_ordered, joins_on, first_some, second_some, as_fit}
use Rattle.rope.proofs.Attaches.{Apart, leaves_swap, guest_low, onto_leaves, attached_leaf, attached_node, host_opening, host_levels, inner_two, outer_two, attached_inside, attached_none, host_one, host_view, beside_is}
use Rattle.rope.proofs.joining.+attach.Given.{Over}
use Rattle.rope.proofs.joining.+attach.Goals.{After-halve}
use Rattle.rope.proofs.joining.+attach.Goals as goal

pub shapes_of-shapes-requires-clause-first : goal.shapes_of-shapes-requires-clause-first
shapes_of-shapes-requires-clause-first g t c = first_some c.requires c.requires.fit.fit

pub shapes_of-shapes-requires-clause-second : goal.shapes_of-shapes-requires-clause-second
shapes_of-shapes-requires-clause-second g t c = second_some c.requires c.requires.fit.fit

pub merge-requires : goal.merge-requires
merge-requires g t c =
    let s = c.shapes_of-shapes.ensures in
    rw (s.same, c.ordered.ensures) (two_ordered c.args.side _ _ leaves_swap (onto_leaves c.args.side c.requires (host_one c.args.side c.requires s.first s.second c.if-shapes-eq1.true)))

pub returns-then-shapes-eq1-clause-joins : goal.returns-then-shapes-eq1-clause-joins
returns-then-shapes-eq1-clause-joins g t c =
    let s = c.shapes_of-shapes.ensures in
    let last = rw (s.same, c.ordered.ensures) at c.merge.ensures.joins in
    record { runs = λ x. attached_leaf c.args.side x (host_one c.args.side x s.first s.second c.if-shapes-eq1.true) _ (joins_on c.args.side _ _ leaves_swap last) s.touches }

pub fits_beside-requires : goal.fits_beside-requires
fits_beside-requires g t c = omega (arith, (c.shapes_of-shapes.ensures.second (second_some c.requires c.requires.fit.fit)).high, guest_low c.args.side c.requires)

pub node_on-requires : goal.node_on-requires
node_on-requires g t c = rw c.shapes_of-shapes.ensures.same (as_fit c.requires c.requires.fit.fit)

pub returns-then-fits_beside-clause-joins : goal.returns-then-fits_beside-clause-joins
returns-then-fits_beside-clause-joins g t c =
    let s = c.shapes_of-shapes.ensures in
    let last = rw s.same at c.node_on.ensures.joins in
    let side = c.args.side in
    record { runs = λ x. attached_node side x (host_view side x s.first s.second c.if-shapes-eq1.false) _ (beside_is side x s.first s.second ∙ sym c.if-fits_beside.ensures) last s.touches }

pub halve-requires : goal.halve-requires
halve-requires g t c =
    let s = c.shapes_of-shapes.ensures in
    rw s.same (host_opening c.args.side c.requires (host_view c.args.side c.requires s.first s.second c.if-shapes-eq1.false))

-- what is known of the children
apart : (g : Over) (t : ℕ) (c : After-halve g t)
    → Apart c.args.side c.args.levels (g.W.Words.row c.args.words.now) (g.W.Words.row c.halve.new.words) c.args.host.0 c.args.guest.0 c.halve.result.0.0 c.halve.result.1.0 (g.W.Words.touched c.args.words.now) (g.W.Words.touched c.halve.new.words)
apart g t c =
    let side = c.args.side in
    let s = c.shapes_of-shapes.ensures in
    let h = c.halve.ensures in
    let cut = rw s.same at h.halved in
    let long = rw s.same at h.kept.long in
    record {
      view = λ x. host_view side x s.first s.second c.if-shapes-eq1.false;
      far = λ x. beside_is side x s.first s.second ∙ sym c.if-fits_beside.ensures;
      cut = cut;
      long = long;
      cost = omega (arith, s.touches, h.touches);
    }

pub overflow_sub-levels : goal.overflow_sub-levels
overflow_sub-levels g t c = host_levels (apart g t (goal.at.overflow_sub-levels g t c).After-halve) c.requires

pub attach-inner-requires : goal.attach-inner-requires
attach-inner-requires g t c κs within =
    let i = apart g t (goal.at.attach-inner-requires g t c).After-halve in
    let some = host_levels i c.requires in
    (omega (arith, c.decreases), (within, inner_two i c.requires))

pub or_release-requires : goal.or_release-requires
or_release-requires g t c = none_held (c.attach-inner.ensures.joins.runs (inner_two (apart g t (goal.at.or_release-requires g t c).After-halve) c.requires))

pub returns-in_err-inner-clause-joins : goal.returns-in_err-inner-clause-joins
returns-in_err-inner-clause-joins g t c =
    let gone = c.in_err-inner.ensures in
    let none = rw (← gone.value) at c.attach-inner.ensures.joins in
    rw c.from_residual.ensures (attached_none (apart g t (goal.at.returns-in_err-inner-clause-joins g t c).After-halve) none gone.released gone.touches)

pub balance-requires : goal.balance-requires
balance-requires g t c =
    let kept = c.in_ok-inner.ensures in
    let inner = rw (← kept.value) at c.attach-inner.ensures.joins in
    rw kept.released (outer_two (apart g t (goal.at.balance-requires g t c).After-halve) inner c.requires)

pub returns-clause-joins : goal.returns-clause-joins
returns-clause-joins g t c =
    let kept = c.in_ok-inner.ensures in
    let inner = rw (← kept.value) at c.attach-inner.ensures.joins in
    let last = rw (kept.released, kept.touches) at c.balance.ensures.joins in
    attached_inside (apart g t (goal.at.returns-clause-joins g t c).After-halve) inner last c.attach-inner.ensures.kept.long
