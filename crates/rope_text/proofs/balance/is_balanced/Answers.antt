use Rattle.std.proofs.Common.{not, length, sym, ap, ◌∙◌, arith}
use Rattle.std.specs.Option.{is_some}
use Rattle.std.proofs.lemmas.Bool.{eqb-false, ne_eqb}
use Rattle.rope_cells.proofs.Codes.{lends_some}
use Rattle.rope_text.proofs.Balances.{root_inner, root_leaf, root_leaf_some, read_as, measured}
use Rattle.rope_text.proofs.balance.is_balanced.Goals as goal

pub told-requires : goal.told-requires
told-requires g c = lends_some _ _ (eqb-false _ _ (sym c.if-is_none.ensures)) c.requires

pub read_leaf-requires : goal.read_leaf-requires
read_leaf-requires g c =
    let some = lends_some _ _ (eqb-false _ _ (sym c.if-is_none.ensures)) c.requires in
    rw c.told.ensures.same (root_leaf some c.told.ensures.value c.if-told-eq1.true)

pub returns-then-told-eq1-clause-value : goal.returns-then-told-eq1-clause-value
returns-then-told-eq1-clause-value g c =
    let told = c.told.ensures in
    let some = lends_some _ _ (eqb-false _ _ (sym c.if-is_none.ensures)) c.requires in
    let leaf = root_leaf some told.value c.if-told-eq1.true in
    let is = ap length (read_as told.same c.read_leaf.ensures.value leaf) in
    let few = root_leaf_some some told.value c.if-told-eq1.true in
    ap not (c.is_empty.ensures ∙ ne_eqb _ 0 (λ e. omega (arith, e, is, few)))

pub measure-requires : goal.measure-requires
measure-requires g c =
    let some = lends_some _ _ (eqb-false _ _ (sym c.if-is_none.ensures)) c.requires in
    rw c.told.ensures.same (root_inner some c.told.ensures.value c.if-told-eq1.false)

pub returns-clause-value : goal.returns-clause-value
returns-clause-value g c =
    let some = lends_some _ _ (eqb-false _ _ (sym c.if-is_none.ensures)) c.requires in
    c.is_some.ensures ∙ ap is_some (measured c.told.ensures.same c.measure.ensures.value (root_inner some c.told.ensures.value c.if-told-eq1.false))
