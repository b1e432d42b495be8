use Rattle.std.proofs.Common.{◌≡◌, ◌+◌, ◌<◌, ◌≤◌, length, ap, ◌∙◌, arith, below_more, [], ◌∷◌, take, drop, drop-cons, get_or}
use Rattle.std.proofs.lemmas.List.{take_more}
use Rattle.rope_cells.specs.LeafBytes.{items}
use Rattle.rope_read.proofs.points.reach_in.Goals as goal

pub sum_at-sum-requires : goal.sum_at-sum-requires
sum_at-sum-requires g c = record { inside = rw c.deref.ensures.0 (omega (arith, c.len-k-end.ensures.value, c.loop-k-test.true)); few = c.deref.ensures.1 }

pub loop-k-preserved : goal.loop-k-preserved
loop-k-preserved g c =
    let inv = c.loop-k.invariant in
    let xs = items c.args.part.now in
    let k = c.loop-k.k in
    let s = g.met.S.Sum in
    let byte = get_or xs k 0 ∷ [] in
    let inside : k < length xs = omega (arith, c.len-k-end.ensures.value, c.loop-k-test.true) in
    let one : take 1 (drop k xs) ≡ byte = ap (take 1) (drop-cons xs k 0 inside) in
    let here : c.sum_at-sum.result ≡ g.S.Sum.sums byte = (rw c.deref.ensures.0 at c.sum_at-sum.ensures) ∙ ap g.S.Sum.sums one in
    let small : g.S.Sum.sums byte ≤ 1 = s.small byte in
    let more : g.S.Sum.sums (take (k + 1) xs) ≡ g.S.Sum.sums (take k xs) + g.S.Sum.sums byte = ap g.S.Sum.sums (take_more xs k 0 inside) ∙ s.whole (take k xs) byte in
    let less : c.loop-k.sum < c.args.n = omega (arith, inv.within, c.if-sum-n.false) in
    record { is = omega (arith, inv.is, here, more); within = omega (arith, here); less = below_more _ _ inv.less (omega (arith, inv.is)) }
