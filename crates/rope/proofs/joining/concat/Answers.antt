use Rattle.rope.proofs.Makings.{first_some, second_some}
use Rattle.rope.proofs.Concats.{concat_none_left, concat_none_right, any_fit, any_onto, any_unto, concat_right, concat_left}
use Rattle.rope.proofs.joining.concat.Goals as goal

pub returns-then-is_none-clause-joins : goal.returns-then-is_none-clause-joins
returns-then-is_none-clause-joins g c = concat_none_left c.if-is_none.ensures

pub returns-then-is_none-2-clause-joins : goal.returns-then-is_none-2-clause-joins
returns-then-is_none-2-clause-joins g c = concat_none_right c.if-is_none-2.ensures

pub shapes_of-shapes-requires-clause-first : goal.shapes_of-shapes-requires-clause-first
shapes_of-shapes-requires-clause-first g c = first_some c.requires (any_fit c.requires c.if-is_none.ensures c.if-is_none-2.ensures)

pub shapes_of-shapes-requires-clause-second : goal.shapes_of-shapes-requires-clause-second
shapes_of-shapes-requires-clause-second g c = second_some c.requires (any_fit c.requires c.if-is_none.ensures c.if-is_none-2.ensures)

pub attach-requires : goal.attach-requires
attach-requires g c =
    let s = c.shapes_of-shapes.ensures in
    rw s.same (any_onto c.requires c.if-is_none.ensures c.if-is_none-2.ensures s.first s.second c.if-shapes.true)

pub attach-requires-else-shapes : goal.attach-requires-else-shapes
attach-requires-else-shapes g c =
    let s = c.shapes_of-shapes.ensures in
    rw s.same (any_unto c.requires c.if-is_none.ensures c.if-is_none-2.ensures s.first s.second c.if-shapes.false)

pub returns-then-shapes-clause-joins : goal.returns-then-shapes-clause-joins
returns-then-shapes-clause-joins g c =
    let s = c.shapes_of-shapes.ensures in
    let last = rw s.same at c.attach.ensures.joins in
    record { runs = λ x. concat_right x c.if-is_none.ensures c.if-is_none-2.ensures s.first s.second c.if-shapes.true _ last s.touches }

pub returns-else-shapes-clause-joins : goal.returns-else-shapes-clause-joins
returns-else-shapes-clause-joins g c =
    let s = c.shapes_of-shapes.ensures in
    let last = rw s.same at c.attach-else-shapes.ensures.joins in
    record { runs = λ x. concat_left x c.if-is_none.ensures c.if-is_none-2.ensures s.first s.second c.if-shapes.false _ last s.touches }
