use Rattle.std.proofs.Common.{ℕ, ◌+◌, List, [], ◌∷◌, sym, subst, MatchOption}
use Rattle.cells.specs.Tree.{none, node}
use Rattle.cells.specs.Have.{item, Have, opt}
use Rattle.cells.specs.Steps.{Made, GaveUp}
use Rattle.cells.proofs.Held.{have_none, none_second}
use Rattle.cells.proofs.Openings.{made_have}
use Rattle.chain.specs.Chains.{paired, numbered}
use Rattle.chain.proofs.pair.Goals as goal

two_none : (m : List ℕ) → Have m [] → Have m (item 0 none ∷ (item 0 none ∷ []))
two_none m h = have_none m (item 0 none ∷ []) (have_none m [] h)

-- the lower cell alone, and none beside it
one_none : (m m' : List ℕ) (p n : ℕ) → Made m m' p 0 0 (numbered n) → Have m [] → Have m' (item p (node none none (numbered n)) ∷ (item 0 none ∷ []))
one_none m m' p n made h = none_second m' (item p (node none none (numbered n))) [] (made.have none none [] (two_none m h))

pub make-requires : goal.make-requires
make-requires g c = rw c.numbered.ensures (record { left = none; right = none; rest = []; have = two_none _ c.requires.have })

pub make-requires-2 : goal.make-requires-2
make-requires-2 g c =
    let n = c.args.n in
    let p = c.in_ok-below.below.0 in
    let row = g.W.Words.row in
    let made : Made (row c.args.words.now) (row c.make.new.words) p 0 0 (numbered n) = rw c.numbered.ensures at c.in_ok-below.ensures.made in
    rw c.numbered-2.ensures (record {
      left = node none none (numbered n);
      right = none;
      rest = [];
      have = one_none _ _ p n made c.requires.have;
    })

pub returns : goal.returns
returns g c =
    let n = c.args.n in
    let p = c.in_ok-below.below.0 in
    let row = g.W.Words.row in
    let m = row c.make.new.words in
    let m' = row c.make-2.new.words in
    let made : Made (row c.args.words.now) m p 0 0 (numbered n) = rw c.numbered.ensures at c.in_ok-below.ensures.made in
    let made_2 : MatchOption c.make-2.result (GaveUp m m' p 0) (λ d. Made m m' d.0 p 0 (numbered (n + 1))) =
    rw c.numbered-2.ensures at c.make-2.ensures.made in
    made_have m m' c.make-2.result p 0 (numbered (n + 1)) made_2 (node none none (numbered n)) none [] (one_none _ m p n made c.requires.have)

pub returns-in_err-below : goal.returns-in_err-below
returns-in_err-below g c =
    let row = g.W.Words.row in
    let m = row c.args.words.now in
    let m' = row c.make.new.words in
    let gone : GaveUp m m' 0 0 = rw c.numbered.ensures at c.in_err-below.ensures.made in
    subst (λ r. Have m' (opt r (paired c.args.n) [])) (sym c.from_residual.ensures) (gone.dropped.have none none [] (two_none m c.requires.have))
