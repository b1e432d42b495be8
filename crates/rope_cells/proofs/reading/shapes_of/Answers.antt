use Rattle.std.proofs.Common.{rules}
use Rattle.rope_cells.specs.Lending.{LendsSome, ShapeIs}
use Rattle.rope_cells.proofs.reading.shapes_of.Goals as goal

pub returns : goal.returns
returns g c =
    let m = g.W.Words.row c.args.words.now in
    let second : (x : LendsSome m c.args.q.0) → ShapeIs x.lends.rope c.shape_of-second.result = rw c.shape_of-first.ensures.same at c.shape_of-second.ensures.value in
    record { first = c.shape_of-first.ensures.value; second = second; same = search rules; touches = search rules }
