use Rattle.std.proofs.Common.{◌+◌, ◌≢◌, sym}
use Rattle.std.proofs.lemmas.Bool.{eqb-true, eqb-false}
use Rattle.cells.specs.Steps.{WordRead}
use Rattle.rope_cells.proofs.Codes.{lends_some, sum_empty, sum_leaf, sum_read}
use Rattle.rope_cells.proofs.reading.total.Goals as goal

pub returns-then-is_none-clause-value : goal.returns-then-is_none-clause-value
returns-then-is_none-clause-value g c = λ x. sum_empty _ _ c.args.k (eqb-true _ _ (sym c.if-is_none.ensures)) x

pub told-requires : goal.told-requires
told-requires g c = lends_some _ _ (eqb-false _ _ (sym c.if-is_none.ensures)) c.requires.rope

pub returns-in-Leaf-clause-value : goal.returns-in-Leaf-clause-value
returns-in-Leaf-clause-value g c = λ x.
    let tag = c.in-Leaf.ensures.value (lends_some _ _ (eqb-false _ _ (sym c.if-is_none.ensures)) x) in
    sum_leaf x.rope c.args.k _ _ x.whole tag.0 tag.1 c.digit_of.ensures

pub returns-in-Node-clause-value : goal.returns-in-Node-clause-value
returns-in-Node-clause-value g c =
    let m = g.W.Words.row c.args.words.now in
    let some : c.args.p.0 ≢ 0 = eqb-false _ _ (sym c.if-is_none.ensures) in
    let read : WordRead m c.args.p.0 (1 + c.args.k) c.data_word.result = rw c.in-Node.ensures.same at c.data_word.ensures.value in
    λ x.
    let tag = c.in-Node.ensures.value (lends_some m _ some x) in
    sum_read m _ c.args.k _ c.requires.place read (record { lends = x; high = tag.0 })
