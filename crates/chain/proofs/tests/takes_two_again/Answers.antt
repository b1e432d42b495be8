use Rattle.std.proofs.Common.{[], ◌∷◌, sym, subst, List, arith, rules}
use Rattle.cells.specs.Have.{Item, item, Have}
use Rattle.chain.specs.Chains.{paired}
use Rattle.chain.proofs.tests.takes_two_again.Goals as goal

pub pair-requires-2 : goal.pair-requires-2
pair-requires-2 g c =
    let h : Have c.pair.new.words.row (item c.in_ok-first.first.0 (paired 1) ∷ []) = search rules in
    record { have = c.release.ensures.released.have (paired 1) [] h; fits = omega arith }

pub refuses-requires : goal.refuses-requires
refuses-requires g c =
    let items : List Item = item c.in_ok-second.second.0 (paired 3) ∷ [] in
    let h : Have c.pair-2.new.words.row items = search rules in
    (items, subst (λ m. Have m items) (sym c.number_below.ensures.same) h)
