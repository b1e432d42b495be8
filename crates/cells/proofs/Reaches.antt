-- No cell is lost, and where none is dead there are no more cells than the trees of what is held have.
use Rattle.std.proofs.Common.{◌≡◌, ℕ, zero, suc, ◌+◌, ◌<◌, ◌≤◌, ◌⊎◌, true, eqb, List, [], ◌∷◌, ◌++◌, length, sym, refl, ap, ◌∙◌, subst, inl, inr, ⊎_elim, arith, length-append}
use Rattle.std.proofs.lemmas.Bool.{eq-eqb, ne_eqb, cases_eq, cases_lt}
use Rattle.std.proofs.lemmas.Map.Steps.{le-length_from_below}
use Rattle.std.specs.List.{list_any, range_with_len}
use Rattle.cells.specs.Layout.{at, taken, first_dead}
use Rattle.cells.specs.Tree.{Tree, none, node, Val, nodes}
use Rattle.cells.specs.Sound.{occ, ins, DeadList, Sound}
use Rattle.cells.specs.Have.{Item, item, refs, Stand, all_nodes}
use Rattle.cells.specs.Theorems.{Under, here, leftward, rightward, NoCellLost, Counting}
use Rattle.cells.proofs.Tallies.{hit_eq, hit_ne, ins_find, occ_append}
use Rattle.cells.proofs.Trees.{bound}

-- a cell is among the dead, if its count is 0
dead_in : (m : List ℕ) (n : ℕ) (dead : List ℕ) (p : ℕ) → DeadList m n dead → 8 ≤ p → p < 8 + n → at m p 0 ≡ 0 → 0 < occ p dead
dead_in m n dead p b lo hi z = omega (arith, b.deads p lo hi, hit_eq (at m p 0) 0 z)

abbrev From : List ℕ → List ℕ → List ℕ → ℕ → Type 0
From m held dead p = (h : ℕ) × ((0 < occ h held) ⊎ (0 < occ h dead)) × Under m h p

module _ (m held : List ℕ) (s : Sound m held) where
  climb : (b : ℕ) → ((q : ℕ) → q < 8 + s.cells → s.ranked.rank q < b) → (fuel p : ℕ) → b ≤ s.ranked.rank p + fuel → 8 ≤ p → p < 8 + s.cells → From m held s.dead p
  climb b top zero p enough lo hi = absurd (omega (arith, top p hi))
  climb b top (suc fuel) p enough lo hi =
      let n = s.cells in
      elim (cases_eq (occ p held) 0) [
        | inr ne ↦ (p, inl (omega arith), here)
        | inl z ↦ elim (cases_eq (at m p 0) 0) [
          | inl gone ↦ (p, inr (dead_in m n s.dead p s.listed lo hi gone), here)
          | inr live ↦
              let count = s.counted.counts p lo hi in
              elim (cases_eq (ins m 1 p n) 0) [
                | inr l ↦
                    let f = ins_find m 1 p n (omega arith) in
                    let up = s.ranked.left f.0 f.1 f.2 (omega (arith, f.3)) in
                    let r = climb b top fuel f.0 (omega (arith, up, ap s.ranked.rank f.3)) f.1 f.2 in
                    (r.0, r.1, subst (λ z. Under m r.0 z) f.3 (leftward r.2 f.1))
                | inl l ↦
                    let f = ins_find m 2 p n (omega arith) in
                    let up = s.ranked.right f.0 f.1 f.2 (omega (arith, f.3)) in
                    let r = climb b top fuel f.0 (omega (arith, up, ap s.ranked.rank f.3)) f.1 f.2 in
                    (r.0, r.1, subst (λ z. Under m r.0 z) f.3 (rightward r.2 f.1))
              ]
        ]
      ]

  reached : (p : ℕ) → 8 ≤ p → p < taken m → From m held s.dead p
  reached p lo hi =
      let b = bound s.ranked.rank (8 + s.cells) in
      climb b.0 b.1 b.0 p (omega arith) lo (omega (arith, s.counted.top))

pub no_cell_lost : NoCellLost
no_cell_lost m held s p lo hi =
    let r = reached m held s p lo hi in
    (r.0, ⊎_elim (λ (h : 0 < occ r.0 held). inl h) (λ (h : 0 < occ r.0 s.dead). inr (s.dead, s.listed.chain, h)) r.1, r.2)

-- where none is dead, each cell stands below one that is held
all_held : (m held : List ℕ) (s : Sound m held) → first_dead m ≡ 0 → (p : ℕ) → 8 ≤ p → p < taken m → (h : ℕ) × (0 < occ h held) × Under m h p
all_held m held s none_dead p lo hi =
    let r = reached m held s p lo hi in
    (r.0, ⊎_elim (λ (h : 0 < occ r.0 held). h) (λ (h : 0 < occ r.0 s.dead). absurd (no_dead s.dead s.listed r.0 h)) r.1, r.2)
  where
    no_dead : (dead : List ℕ) → DeadList m s.cells dead → (q : ℕ) → 0 < occ q dead → ⊥
    no_dead [] b q h = omega arith
    no_dead (d ∷ ds) b q h = omega (arith, b.chain.0, (b.inside d (omega (arith, hit_eq d d refl))).0)

-- the cells of a tree
abbrev cells_of : List ℕ → ℕ → Tree → List ℕ
cells_of m p none = []
cells_of m p (node l r w) = p ∷ (cells_of m (at m p 1) l ++ cells_of m (at m p 2) r)

abbrev all_cells : List ℕ → List Item → List ℕ
all_cells m [] = []
all_cells m (item p v ∷ xs) = cells_of m p v ++ all_cells m xs

cells_length : (m : List ℕ) (p : ℕ) (v : Tree) → length (cells_of m p v) ≡ nodes v
cells_length m p none = refl
cells_length m p (node l r w) =
    omega (arith, length-append (cells_of m (at m p 1) l) (cells_of m (at m p 2) r), cells_length m (at m p 1) l, cells_length m (at m p 2) r)

all_length : (m : List ℕ) (xs : List Item) → length (all_cells m xs) ≡ all_nodes xs
all_length m [] = refl
all_length m (item p v ∷ xs) = omega (arith, length-append (cells_of m p v) (all_cells m xs), cells_length m p v, all_length m xs)

-- a tree's own cell is one of its cells
root_cell : (m : List ℕ) (p : ℕ) (v : Tree) → Val m p v → 8 ≤ p → 0 < occ p (cells_of m p v)
root_cell m p none a lo = absurd (omega arith)
root_cell m p (node l r w) a lo = omega (arith, hit_eq p p refl)

-- and so are the children of each
child_cell : (m : List ℕ) (k : ℕ) → (k ≡ 1) ⊎ (k ≡ 2) → (p : ℕ) (v : Tree) → Val m p v → (q : ℕ) → 0 < occ q (cells_of m p v) → 8 ≤ at m q k → 0 < occ (at m q k) (cells_of m p v)
child_cell m k ks p none a q i lo = absurd (omega arith)
child_cell m k ks p (node l r w) a q i lo =
    let c = at m q k in
    let sl = cells_of m (at m p 1) l in
    let sr = cells_of m (at m p 2) r in
    let oc = occ_append c sl sr in
    let oq = occ_append q sl sr in
    ⊎_elim
    (λ (e : p ≡ q). ⊎_elim
    (λ (k1 : k ≡ 1). let is : c ≡ at m p 1 = ap (λ z. at m z k) (sym e) ∙ ap (at m p) k1 in
    let got : 0 < occ c sl = subst (λ z. 0 < occ z sl) (sym is) (root_cell m (at m p 1) l a.1 (omega arith)) in omega arith)
    (λ (k2 : k ≡ 2). let is : c ≡ at m p 2 = ap (λ z. at m z k) (sym e) ∙ ap (at m p) k2 in
    let got : 0 < occ c sr = subst (λ z. 0 < occ z sr) (sym is) (root_cell m (at m p 2) r a.2 (omega arith)) in omega arith)
    ks)
    (λ (ne : p ≡ q → ⊥). let z = hit_ne p q ne in ⊎_elim
    (λ (h : 0 < occ q sl). omega (arith, child_cell m k ks (at m p 1) l a.1 q h lo))
    (λ (h : occ q sl ≤ 0). omega (arith, child_cell m k ks (at m p 2) r a.2 q (omega arith) lo))
    (cases_lt 0 (occ q sl)))
    (cases_eq p q)

under_cell : (m : List ℕ) (h : ℕ) (v : Tree) → Val m h v → (p : ℕ) → Under m h p → 8 ≤ p → 0 < occ p (cells_of m h v)
under_cell m h v a p here lo = root_cell m h v a lo
under_cell m h v a p (leftward {q} u some) lo = child_cell m 1 (inl refl) h v a q (under_cell m h v a q u some) lo
under_cell m h v a p (rightward {q} u some) lo = child_cell m 2 (inr refl) h v a q (under_cell m h v a q u some) lo

held_cell : (m : List ℕ) (xs : List Item) → Stand m xs → (h p : ℕ) → 0 < occ h (refs xs) → Under m h p → 8 ≤ p → 0 < occ p (all_cells m xs)
held_cell m [] s h p i u lo = absurd (omega arith)
held_cell m (item q v ∷ xs) s h p i u lo =
    let o = occ_append p (cells_of m q v) (all_cells m xs) in
    ⊎_elim
    (λ (e : q ≡ h). omega (arith, under_cell m q v s.0 p (subst (λ z. Under m z p) (sym e) u) lo))
    (λ (ne : q ≡ h → ⊥). omega (arith, held_cell m xs s.1 h p (omega (arith, hit_ne q h ne)) u lo))
    (cases_eq q h)

-- what stands in a list is found there
found : (q : ℕ) (xs : List ℕ) → 0 < occ q xs → list_any (eqb q) xs ≡ true
found q [] h = absurd (omega arith)
found q (x ∷ xs) h =
    elim (cases_eq q x) [
      | inl e ↦ rw (eq-eqb q x e) refl
      | inr ne ↦ rw (ne_eqb q x ne) (found q xs (omega (arith, hit_ne x q (λ e. ne (sym e)))))
    ]

-- a list that has each number from 8 on and below n
enough : (n : ℕ) (xs : List ℕ) → ((p : ℕ) → 8 ≤ p → p < n → 0 < occ p xs) → n ≤ 8 + length xs
enough n xs h =
    omega (
      arith,
      le-length_from_below (range_with_len 0 8 ++ xs) n (λ q lt. found q (range_with_len 0 8 ++ xs) (stands q lt)),
      length-append (range_with_len 0 8) xs,
    )
  where
    stands : (q : ℕ) → q < n → 0 < occ q (range_with_len 0 8 ++ xs)
    stands q lt =
        elim (cases_lt q 8) [
          | inl few ↦ grind (arith, hit_eq)
          | inr lo ↦ omega (arith, occ_append q (range_with_len 0 8) xs, h q lo lt)
        ]

pub counting : Counting
counting m xs h none_dead =
    let listed : (p : ℕ) → 8 ≤ p → p < taken m → 0 < occ p (all_cells m xs) =
    λ p lo lt. (let r = all_held m (refs xs) h.sound none_dead p lo lt in held_cell m xs h.stand r.0 p r.1 r.2 lo) in
    omega (arith, enough (taken m) (all_cells m xs) listed, all_length m xs)
