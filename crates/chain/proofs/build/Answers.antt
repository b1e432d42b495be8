use Rattle.std.proofs.Common.{[], ◌∷◌, sym, refl, ◌∙◌, subst, add-one}
use Rattle.cells.specs.Tree.{none}
use Rattle.cells.specs.Have.{item, Have}
use Rattle.cells.specs.Steps.{Made}
use Rattle.cells.proofs.Held.{have_none}
use Rattle.chain.specs.Chains.{chained, numbered}
use Rattle.chain.proofs.build.Goals as goal

pub loop-k-init : goal.loop-k-init
loop-k-init g c = (have_none _ [] c.requires, refl)

pub alloc-requires : goal.alloc-requires
alloc-requires g c =
    rw c.numbered.ensures (record {
      left = none;
      right = chained c.loop-k.k;
      rest = [];
      have = have_none _ (item c.loop-k.first.0 (chained c.loop-k.k) ∷ []) c.loop-k.invariant.0;
    })

pub loop-k-preserved : goal.loop-k-preserved
loop-k-preserved g c =
    let m = g.W.Words.row c.alloc.new.words in
    let k = c.loop-k.k in
    let d = c.in-Some.cell.0 in
    let made : Made (g.W.Words.row c.loop-k.words) m d 0 c.loop-k.first.0 (numbered k) = rw c.numbered.ensures at c.in-Some.ensures.made in
    let h = made.have none (chained k) [] (have_none _ (item c.loop-k.first.0 (chained k) ∷ []) c.loop-k.invariant.0) in
    (subst (λ n. Have m (item d (chained n) ∷ [])) (sym (add-one k)) h, c.in-Some.ensures.kept.long ∙ c.loop-k.invariant.1)
