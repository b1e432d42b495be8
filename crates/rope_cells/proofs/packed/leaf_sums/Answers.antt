use Rattle.std.proofs.Common.{◌<◌, ◌≢◌, length, ◌∙◌, arith, below_more}
use Rattle.std.proofs.lemmas.List.{get_or-set_same, get_or-set_other}
use Rattle.rope_cells.proofs.Packings.{digit_sum}
use Rattle.rope_cells.proofs.Codes.{sums_read}
use Rattle.rope_cells.proofs.packed.leaf_sums.Goals as goal

pub loop-k-preserved : goal.loop-k-preserved
loop-k-preserved c =
    let k = c.loop-k.k in
    let lt : k < length c.loop-k.sum-items = omega (arith, c.loop-k-test.true, c.loop-k.auto.sum-items) in
    below_more _ _ (λ j h. let ne : j ≢ k = omega arith in rw get_or-set_other (c.loop-k.invariant j h)) (rw get_or-set_same c.digit_of.ensures)

pub returns : goal.returns
returns c = λ xs few is. sums_read xs c.loop-k.sum-items c.loop-k.auto.sum-items (λ j h. c.loop-k.invariant j (omega (arith, c.loop-k-test.false)) ∙ digit_sum c.args.tag xs few is j)
