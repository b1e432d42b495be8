use Rattle.std.proofs.Common.{◌≡◌, ℕ, List, get_or, sym, ap, ◌∙◌, subst, arith, rules, [], ◌∷◌}
use Rattle.std.proofs.lemmas.List.{get_or-set_same}
use Rattle.cells.specs.Have.{Have, item}
use Rattle.cells.specs.Layout.{state}
use Rattle.cells.proofs.Rows.{length_state}
use Rattle.chain.specs.Chains.{Pair, Stored, paired}
use Rattle.chain.proofs.Storing.{pair_long}
use Rattle.chain.proofs.tests.finds_what_it_stored.Goals as goal

-- what was stored is found
found : (m m' m'' : List ℕ) (p q x : ℕ) → Pair m p → Stored m m' p x → q ≡ get_or (state m') 0 0 → m'' ≡ m' → Pair m'' q
found m m' m'' p q x a s is same =
    let root = ap (λ z. get_or z 0 0) s.state ∙ get_or-set_same (state m) 0 p 0 (omega (arith, length_state m (pair_long m p a))) in
    let e : q ≡ p = is ∙ root in
    subst (λ z. Pair z q) (sym same) (subst (λ z. Pair m' z) (sym e) (record { number = a.number; have = s.have a.number a.have }))

pub number_below-requires : goal.number_below-requires
number_below-requires g c =
    let h : Have (c.pair.new.words.row) (item c.in_ok-two.two.0 (paired 5) ∷ []) = search rules in
    found _ _ _ c.in_ok-two.two.0 _ _ (record { number = 5; have = h }) c.store.ensures c.root-found.ensures.value c.root-found.ensures.same
