use Rattle.std.proofs.Common.{◌+◌, ◌-◌, length, drop, sym, ap, ◌∙◌, arith, rules}
use Rattle.std.proofs.lemmas.List.{length_push}
use Rattle.std.proofs.lemmas.Iterator.Adapters.{YieldsList-from_rev_slice}
use Rattle.std.proofs.lemmas.Iterator.Consumers.{YieldsList-turn}
use Rattle.ropes.specs.Layout.{sums_of, pack}
use Rattle.rope_cells.proofs.Packings.{no_digit, one_digit_more, digits_fit}
use Rattle.rope_cells.proofs.packed.leaf_tag.Goals as goal

pub loop-sum-init : goal.loop-sum-init
loop-sum-init c = (tt, tt, no_digit c.args.bytes.now)

pub overflow_mul-tag : goal.overflow_mul-tag
overflow_mul-tag c = omega (arith, c.loop-sum.invariant.2, digits_fit c.args.bytes.now (6 - length c.loop-sum.yielded) c.requires)

pub overflow_add-tag : goal.overflow_add-tag
overflow_add-tag c =
    let turn = YieldsList-turn (YieldsList-from_rev_slice (sums_of c.args.bytes.now) (search rules)) c.loop-sum.yielded _ c.loop-sum.yielded_by _ _ c.in-Some.sum c.in-Some.is c.next.ensures.steps in
    omega (arith, one_digit_more c.args.bytes.now _ _ _ turn c.loop-sum.invariant.2, digits_fit c.args.bytes.now (6 - (length c.loop-sum.yielded + 1)) c.requires)

pub loop-sum-preserved : goal.loop-sum-preserved
loop-sum-preserved c =
    let turn = YieldsList-turn (YieldsList-from_rev_slice (sums_of c.args.bytes.now) (search rules)) c.loop-sum.yielded _ c.loop-sum.yielded_by _ _ c.in-Some.sum c.in-Some.is c.next.ensures.steps in
    let long = sym (length_push c.loop-sum.yielded c.in-Some.sum) in
    (tt, tt, one_digit_more c.args.bytes.now _ _ _ turn c.loop-sum.invariant.2 ∙ ap (λ z. pack (drop (6 - z) (sums_of c.args.bytes.now))) long)
