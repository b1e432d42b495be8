use Rattle.std.proofs.Common.{arith}
use Rattle.rope_read.proofs.Spans.{some_of, told_by_size, told_by_shape, tag_price_one}
use Rattle.rope_read.proofs.ranges.is_leaf.Goals as goal

pub shape_of-requires-then-size-eq-TWO_LEAVES : goal.shape_of-requires-then-size-eq-TWO_LEAVES
shape_of-requires-then-size-eq-TWO_LEAVES g c = some_of _ _ c.args.size c.requires.rope

pub returns-then-size-eq-TWO_LEAVES-clause-value : goal.returns-then-size-eq-TWO_LEAVES-clause-value
returns-then-size-eq-TWO_LEAVES-clause-value g c = told_by_shape _ _ c.args.size _ c.shape_of.ensures.value

pub returns-then-size-eq-TWO_LEAVES-clause-touches : goal.returns-then-size-eq-TWO_LEAVES-clause-touches
returns-then-size-eq-TWO_LEAVES-clause-touches g c = omega (arith, c.shape_of.ensures.touches, tag_price_one c.args.size c.if-size-eq-TWO_LEAVES.true)

pub returns-else-size-eq-TWO_LEAVES-clause-value : goal.returns-else-size-eq-TWO_LEAVES-clause-value
returns-else-size-eq-TWO_LEAVES-clause-value g c = told_by_size _ _ c.args.size c.if-size-eq-TWO_LEAVES.false
