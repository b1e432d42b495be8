use Rattle.std.proofs.Common.{refl, arith}
use Rattle.ropes.proofs.Depths.{height_low}
use Rattle.ropes.proofs.Joins.{inner_whole}
use Rattle.rope.proofs.Holds.{after_by}
use Rattle.rope.proofs.Makings.{first_some, second_some, as_fit}
use Rattle.rope.proofs.Sides.{balance_rotated, balance_node, rotations_on_one}
use Rattle.rope.proofs.Rotates.{near_leaning, near_fit, near_high, near_low}
use Rattle.rope.proofs.balancing.balance.Goals as goal

pub shapes_of-shapes-requires-clause-first : goal.shapes_of-shapes-requires-clause-first
shapes_of-shapes-requires-clause-first g c = first_some c.requires (near_fit c.requires)

pub shapes_of-shapes-requires-clause-second : goal.shapes_of-shapes-requires-clause-second
shapes_of-shapes-requires-clause-second g c = second_some c.requires (near_fit c.requires)

pub overflow_add-shapes : goal.overflow_add-shapes
overflow_add-shapes g c =
    let x = c.requires in
    omega (arith, height_low x.u (inner_whole x.u x.fit.first) (omega (arith, x.fit.few)), (c.shapes_of-shapes.ensures.first (first_some x (near_fit x))).high)

pub rotate-requires : goal.rotate-requires
rotate-requires g c =
    let s = c.shapes_of-shapes.ensures in
    rw s.same (near_leaning c.requires (near_high c.requires s.first s.second c.if-shapes.true))

pub node_on-requires : goal.node_on-requires
node_on-requires g c = rw c.shapes_of-shapes.ensures.same (as_fit c.requires (near_fit c.requires))

pub returns-then-shapes-clause-joins : goal.returns-then-shapes-clause-joins
returns-then-shapes-clause-joins g c =
    let s = c.shapes_of-shapes.ensures in
    let last = rw s.same at c.rotate.ensures.joins in
    record {
      runs = λ x.
          let h = near_high x s.first s.second c.if-shapes.true in
          after_by (last.runs (near_leaning x h)) refl (balance_rotated c.args.side x.u x.v h) (omega arith) (omega (arith, s.touches, rotations_on_one c.args.side x.u x.v h));
    }

pub returns-else-shapes-clause-joins : goal.returns-else-shapes-clause-joins
returns-else-shapes-clause-joins g c =
    let s = c.shapes_of-shapes.ensures in
    let last = rw s.same at c.node_on.ensures.joins in
    record {
      runs = λ x.
          after_by (last.runs (as_fit x (near_fit x))) refl (balance_node c.args.side x.u x.v x.fit.low (near_low x s.first s.second c.if-shapes.false)) (omega arith) (omega (arith, s.touches));
    }
