use Rattle.std.proofs.Common.{arith}
use Rattle.rope.proofs.Holds.{none_held}
use Rattle.rope.proofs.Rotates.{lean_opening, lean_first, lean_second, Turned, lean_peak, lean_doubled, lean_single, lean_released, lean_last, lean_rotated}
use Rattle.rope.proofs.balancing.rotate.Given.{Over}
use Rattle.rope.proofs.balancing.rotate.Goals.{After-shapes_of-shapes}
use Rattle.rope.proofs.balancing.rotate.Goals as goal

pub halve-requires : goal.halve-requires
halve-requires g c = lean_opening c.args.side c.requires

pub shapes_of-shapes-requires-clause-first : goal.shapes_of-shapes-requires-clause-first
shapes_of-shapes-requires-clause-first g c = lean_first c.args.side c.requires c.halve.ensures.halved

pub shapes_of-shapes-requires-clause-second : goal.shapes_of-shapes-requires-clause-second
shapes_of-shapes-requires-clause-second g c = lean_second c.args.side c.requires c.halve.ensures.halved

-- what is known of the two parts
turned : (g : Over) (c : After-shapes_of-shapes g)
    → Turned c.args.side (g.W.Words.row c.args.words.now) (g.W.Words.row c.halve.new.words) c.args.a.0 c.args.b.0 c.halve.result.0.0 c.halve.result.1.0 c.shapes_of-shapes.result.first.height c.shapes_of-shapes.result.second.height
    (g.W.Words.touched c.args.words.now) (g.W.Words.touched c.shapes_of-shapes.new.words)
turned g c =
    let h = c.halve.ensures in
    let s = c.shapes_of-shapes.ensures in
    record {
      cut = h.halved;
      first = λ x. (s.first (lean_first c.args.side x h.halved)).high;
      second = λ x. (s.second (lean_second c.args.side x h.halved)).high;
      long = h.kept.long;
      cost = omega (arith, h.touches, s.touches);
    }

pub rotate_double-requires : goal.rotate_double-requires
rotate_double-requires g c = rw c.shapes_of-shapes.ensures.same (lean_peak (turned g (goal.at.rotate_double-requires g c).After-shapes_of-shapes) c.if-shapes.true c.requires)

pub returns-then-shapes-clause-joins : goal.returns-then-shapes-clause-joins
returns-then-shapes-clause-joins g c =
    let last = rw c.shapes_of-shapes.ensures.same at c.rotate_double.ensures.doubles in
    lean_doubled (turned g (goal.at.returns-then-shapes-clause-joins g c).After-shapes_of-shapes) c.if-shapes.true last

pub node_on-x-requires : goal.node_on-x-requires
node_on-x-requires g c = rw c.shapes_of-shapes.ensures.same (lean_single (turned g (goal.at.node_on-x-requires g c).After-shapes_of-shapes) c.requires)

pub or_release-requires : goal.or_release-requires
or_release-requires g c =
    let one = rw c.shapes_of-shapes.ensures.same at c.node_on-x.ensures.joins in
    none_held (one.runs (lean_single (turned g (goal.at.or_release-requires g c).After-shapes_of-shapes) c.requires))

pub returns-in_err-x-clause-joins : goal.returns-in_err-x-clause-joins
returns-in_err-x-clause-joins g c =
    let gone = c.in_err-x.ensures in
    let one = rw (c.shapes_of-shapes.ensures.same, ← gone.value) at c.node_on-x.ensures.joins in
    rw c.from_residual.ensures (lean_released (turned g (goal.at.returns-in_err-x-clause-joins g c).After-shapes_of-shapes) one gone.released gone.touches)

pub node_on-requires : goal.node_on-requires
node_on-requires g c =
    let kept = c.in_ok-x.ensures in
    let one = rw (c.shapes_of-shapes.ensures.same, ← kept.value) at c.node_on-x.ensures.joins in
    rw kept.released (lean_last (turned g (goal.at.node_on-requires g c).After-shapes_of-shapes) c.if-shapes.false one c.requires)

pub returns-clause-joins : goal.returns-clause-joins
returns-clause-joins g c =
    let kept = c.in_ok-x.ensures in
    let one = rw (c.shapes_of-shapes.ensures.same, ← kept.value) at c.node_on-x.ensures.joins in
    let long = rw c.shapes_of-shapes.ensures.same at c.node_on-x.ensures.kept.long in
    let two = rw (kept.released, kept.touches) at c.node_on.ensures.joins in
    lean_rotated (turned g (goal.at.returns-clause-joins g c).After-shapes_of-shapes) c.if-shapes.false one two long
