use Rattle.std.proofs.Common.{◌≡◌, ℕ, ◌-◌, List, [], ◌∷◌, length, sym, subst, rules}
use Rattle.words.specs.Padded.{padded}
use Rattle.cells.specs.Tree.{none}
use Rattle.cells.specs.Have.{Item, item, Have}
use Rattle.cells.proofs.Held.{none_second}
use Rattle.cells.proofs.Headers.{longer_row}
use Rattle.chain.specs.Chains.{paired}
use Rattle.chain.proofs.tests.stays_in_a_longer_row.Goals as goal

-- what is held in a row is held in a longer one
longer : (m m' : List ℕ) (n : ℕ) (items : List Item) → m' ≡ padded m n → Have m items → Have m' items
longer m m' n items e h = subst (λ z. Have z items) (sym e) (longer_row m items (n - length m) h).0

pub number_below-requires : goal.number_below-requires
number_below-requires g c =
    let two : List Item = item c.in_ok-two.two.0 (paired 1) ∷ [] in
    let h : Have c.pair.new.words.row two = search rules in
    record { number = 1; have = longer _ _ 176 two c.in_ok-grow.ensures.cases h }

pub make-requires : goal.make-requires
make-requires g c =
    let x = item c.in_ok-two.two.0 (paired 1) in
    let two : Have c.pair.new.words.row (x ∷ []) = search rules in
    let h = longer _ _ 176 (x ∷ []) c.in_ok-grow.ensures.cases two in
    rw c.numbered.ensures (record {
      left = paired 1;
      right = none;
      rest = [];
      have = none_second _ x [] (subst (λ m. Have m (x ∷ [])) (sym c.number_below.ensures.same) h);
    })
