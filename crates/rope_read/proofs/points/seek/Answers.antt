use Rattle.std.proofs.Common.{◌+◌, ◌<◌, sym, ap, arith, rules}
use Rattle.std.proofs.lemmas.Bool.{eqb-true, eqb-false}
use Rattle.rope_cells.proofs.Codes.{lends_some}
use Rattle.rope_cells.proofs.Packings.{items_few}
use Rattle.rope_read.proofs.Texts.{text_none, text_few}
use Rattle.rope_read.proofs.Spots.{sums_none, reached_is}
use Rattle.rope_read.proofs.points.seek.Goals as goal

pub returns-then-is_none-clause-value : goal.returns-then-is_none-clause-value
returns-then-is_none-clause-value g c =
    let sums = g.S.Sum.sums in
    let e = text_none _ _ (eqb-true _ _ (sym c.if-is_none.ensures)) c.requires.rope in
    let z = sums_none sums g.met.S.Sum.whole in
    record { within = omega arith; reaches = omega (arith, z, ap sums e, c.requires.reached); least = λ q h. absurd (omega arith) }

pub locate-spot-requires-clause-rope : goal.locate-spot-requires-clause-rope
locate-spot-requires-clause-rope g c = lends_some _ _ (eqb-false _ _ (sym c.if-is_none.ensures)) c.requires.rope

pub overflow_add-result : goal.overflow_add-result
overflow_add-result g c =
    let s = g.met.S.Sum in
    let x = reached_is g.S.Sum.sums s.whole s.small c.locate-spot.ensures.value _ c.reach_in.ensures in
    let few = text_few _ _ c.requires.rope in
    let fits : c.locate-spot.result.of + c.reach_in.result < 536870912 = omega (arith, x.within) in
    search rules

pub returns-clause-value : goal.returns-clause-value
returns-clause-value g c =
    let s = g.met.S.Sum in
    reached_is g.S.Sum.sums s.whole s.small c.locate-spot.ensures.value _ c.reach_in.ensures

pub overflow_cast-result : goal.overflow_cast-result
overflow_cast-result g c =
    let few = items_few c.locate-spot.result.leaf in
    let within = c.reach_in.ensures.within in
    search rules
