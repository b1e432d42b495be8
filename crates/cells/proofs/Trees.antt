-- Each held reference of a sound heap stands for a tree.
use Rattle.std.proofs.Common.{◌≡◌, ℕ, zero, suc, ◌+◌, ◌<◌, ◌≤◌, List, [], ◌∷◌, drop, sym, refl, ap, subst, inl, inr, arith}
use Rattle.std.proofs.lemmas.Bool.{cases_eq}
use Rattle.cells.specs.Layout.{cell, at}
use Rattle.cells.specs.Tree.{Tree, none, node, Val}
use Rattle.cells.specs.Sound.{occ, Known, Sound}
use Rattle.cells.specs.Have.{Item, item, refs, Stand}
use Rattle.cells.specs.Theorems.{HasTrees}
use Rattle.cells.proofs.Tallies.{hit_eq}

-- a bound on what a function takes below n
pub bound : (f : ℕ → ℕ) (n : ℕ) → (b : ℕ) × ((q : ℕ) → q < n → f q < b)
bound f zero = (0, λ q h. absurd (omega arith))
bound f (suc n) =
    let r = bound f n in
    (r.0 + f n + 1, λ q h. elim (cases_eq q n) [ inl e ↦ omega (arith, ap f e) | inr ne ↦ omega (arith, r.1 q (omega arith)) ])

module _ (m held : List ℕ) (s : Sound m held) where
  grown : (fuel p : ℕ) → Known s.cells p → (1 ≤ p → s.ranked.rank p < fuel) → (v : Tree) × Val m p v
  grown zero p known enough =
      elim (cases_eq p 0) [ inl e ↦ (none, e) | inr ne ↦ (let one : 1 ≤ p = omega arith in absurd (omega (arith, enough one))) ]
  grown (suc fuel) p known enough =
      elim (cases_eq p 0) [
        | inl e ↦ (none, e)
        | inr ne ↦
            let one : 1 ≤ p = omega arith in
            let lo = (known one).0 in
            let hi = (known one).1 in
            let l = grown fuel (at m p 1) (s.counted.left p lo hi) (λ o. omega (arith, enough one, s.ranked.left p lo hi o)) in
            let r = grown fuel (at m p 2) (s.counted.right p lo hi) (λ o. omega (arith, enough one, s.ranked.right p lo hi o)) in
            (node l.0 r.0 (drop 3 (cell m p)), (lo, l.1, r.1, refl))
      ]

  pub tree_of : (p : ℕ) → Known s.cells p → (v : Tree) × Val m p v
  tree_of p known =
      let b = bound s.ranked.rank (8 + s.cells) in
      grown b.0 p known (λ one. b.1 p (known one).1)

trees : (m held : List ℕ) (s : Sound m held) (ys : List ℕ) → ((p : ℕ) → 0 < occ p ys → Known s.cells p) → (items : List Item) × (refs items ≡ ys) × Stand m items
trees m held s [] known = ([], refl, tt)
trees m held s (y ∷ ys) known =
    let t = tree_of m held s y (known y (omega (arith, hit_eq y y refl))) in
    let r = trees m held s ys (λ p h. known p (omega arith)) in
    (item y t.0 ∷ r.0, ap (λ zs. y ∷ zs) r.1, (t.1, r.2))

pub has_trees : HasTrees
has_trees m held s =
    let r = trees m held s held s.counted.holds in
    (r.0, r.1, record { sound = subst (λ zs. Sound m zs) (sym r.1) s; stand = r.2 })
