use Rattle.std.proofs.Common.{ap, length, arith, rules}
use Rattle.rope_text.proofs.Holdings.{stands_few, lending, unsliced, sliced_beside, new_lends, new_text, new_holding, beside_old, length_part, read_part}
use Rattle.rope_text.proofs.editing.sliced.Goals as goal

pub overflow_cast-into : goal.overflow_cast-into
overflow_cast-into g c =
    let few = stands_few c.requires.rope in
    let inside = c.requires.inside in
    search rules

pub overflow_add-from : goal.overflow_add-from
overflow_add-from g c =
    let few = stands_few c.requires.rope in
    let inside = c.requires.inside in
    search rules

pub slice-requires : goal.slice-requires
slice-requires g c = lending c.requires.rope

pub returns-in_default-clause-stands : goal.returns-in_default-clause-stands
returns-in_default-clause-stands g c = unsliced c.requires.rope c.in_default.ensures.slices

pub read-requires-clause-rope : goal.read-requires-clause-rope
read-requires-clause-rope g c = new_lends (sliced_beside c.requires.rope c.in-Some.ensures.slices)

pub read-requires-clause-inside : goal.read-requires-clause-inside
read-requires-clause-inside g c =
    omega (arith, ap length (new_text (sliced_beside c.requires.rope c.in-Some.ensures.slices)), length_part _ c.args.from _ c.requires.inside)

pub release-requires : goal.release-requires
release-requires g c = rw c.read.ensures.same (new_holding (sliced_beside c.requires.rope c.in-Some.ensures.slices))

pub returns-clause-stands : goal.returns-clause-stands
returns-clause-stands g c = beside_old (sliced_beside c.requires.rope c.in-Some.ensures.slices) (rw c.read.ensures.same at c.release.ensures.released)

pub returns-clause-value : goal.returns-clause-value
returns-clause-value g c =
    read_part _ c.args.from _ c.requires.inside (new_text (sliced_beside c.requires.rope c.in-Some.ensures.slices)) c.read.ensures.value
