use Rattle.std.proofs.Common.{◌≡◌, ◌+◌, ◌-◌, min, length, take, sym, ap, ◌∙◌, subst, arith}
use Rattle.std.proofs.lemmas.Bool.{eqb-true, eqb-false}
use Rattle.rope_cells.proofs.Codes.{lends_some}
use Rattle.rope_cells.specs.LeafBytes.{items}
use Rattle.rope_read.specs.Text.{text}
use Rattle.rope_read.proofs.Texts.{text_none}
use Rattle.rope_read.proofs.Spots.{front_sum_none, prefix_is, front_min}
use Rattle.rope_read.proofs.points.prefix.Goals as goal

pub returns-then-is_none-clause-value : goal.returns-then-is_none-clause-value
returns-then-is_none-clause-value g c =
    front_sum_none g.S.Sum.sums g.met.S.Sum.whole _ c.args.at (text_none _ _ (eqb-true _ _ (sym c.if-is_none.ensures)) c.requires.rope)

pub locate-spot-requires-clause-rope : goal.locate-spot-requires-clause-rope
locate-spot-requires-clause-rope g c = rw c.len.ensures.same (lends_some _ _ (eqb-false _ _ (sym c.if-is_none.ensures)) c.requires.rope)

pub returns-clause-value : goal.returns-clause-value
returns-clause-value g c =
    let sums = g.S.Sum.sums in
    let n = c.min-end.result in
    let r = c.locate-spot.result in
    let t = text (g.W.Words.row c.args.words.now) c.args.p.0 in
    let here : c.front_sum.result ≡ sums (take (n - r.by) (items r.leaf)) = c.front_sum.ensures in
    let whole : r.of + sums (take (n - r.by) (items r.leaf)) ≡ sums (take n t) = subst (λ m. r.of + sums (take (n - r.by) (items r.leaf)) ≡ sums (take n (text m c.args.p.0))) c.len.ensures.same (prefix_is c.locate-spot.ensures.value g.met.S.Sum.whole) in
    let end : n ≡ min c.args.at (length t) = omega (arith, c.min-end.ensures, c.len.ensures.value) in
    ap (λ k. r.of + k) here ∙ (whole ∙ ap sums (ap (λ k. take k t) end ∙ front_min t c.args.at))
