-- Cutting at an end, and inside a node.
use Rattle.std.proofs.Common.{◌≡◌, ℕ, ◌+◌, ◌-◌, ◌<◌, ◌≤◌, ◌≢◌, List, [], ◌∷◌, length, take, drop, refl, ap, ◌∙◌, arith}
use Rattle.std.proofs.lemmas.Bool.{ne_eqb, le-leb, lt-leb, lt-ltb, le-ltb, cond-true, cond-false}
use Rattle.std.proofs.lemmas.List.{take_all, drop_all}
use Rattle.ropes.specs.Rope.{Rope, empty, leaf, node, leaf_min, size, Inner, Whole}
use Rattle.ropes.specs.Join.{concat}
use Rattle.ropes.specs.Cut.{piece, front, back}

pub piece_leaf : (b : List ℕ) → 1 ≤ length b → piece b ≡ leaf b
unfolding piece
piece_leaf [] h = absurd (omega arith)
piece_leaf (x ∷ xs) h = refl

pub inner_size : (t : Rope) → Inner t → leaf_min ≤ size t
inner_size empty i = absurd i
inner_size (leaf b) i = i.0
inner_size (node l r) i = omega (arith, inner_size l i.0)

take_none : (b : List ℕ) → take 0 b ≡ []
take_none [] = refl
take_none (x ∷ xs) = refl

drop_none : (b : List ℕ) → drop 0 b ≡ b
drop_none [] = refl
drop_none (x ∷ xs) = refl

pub front_zero : (t : Rope) → front t 0 ≡ empty
unfolding front piece
front_zero empty = refl
front_zero (leaf b) = ap piece (take_none b)
front_zero (node l r) = refl

pub back_zero : (t : Rope) → Whole t → back t 0 ≡ t
unfolding back
back_zero empty w = refl
back_zero (leaf b) w = ap piece (drop_none b) ∙ piece_leaf b w.0
back_zero (node l r) w = refl

pub front_all : (t : Rope) (i : ℕ) → Whole t → size t ≤ i → front t i ≡ t
unfolding front
front_all empty i w h = refl
front_all (leaf b) i w h = ap piece (take_all i b h) ∙ piece_leaf b w.0
front_all (node l r) i w h =
    let some : i ≢ 0 = omega (arith, inner_size l w.0) in
    cond-false _ _ _ (ne_eqb _ _ some) ∙ cond-true _ _ _ (le-leb _ _ h)

pub back_all : (t : Rope) (i : ℕ) → Whole t → size t ≤ i → back t i ≡ empty
unfolding back piece
back_all empty i w h = refl
back_all (leaf b) i w h = ap piece (drop_all i b h)
back_all (node l r) i w h =
    let some : i ≢ 0 = omega (arith, inner_size l w.0) in
    cond-false _ _ _ (ne_eqb _ _ some) ∙ cond-true _ _ _ (le-leb _ _ h)

module _ (l r : Rope) (i : ℕ) (some : 1 ≤ i) (inside : i < size l + size r) where
  pub front_left : i < size l → front (node l r) i ≡ front l i
  unfolding front
  front_left h =
      let ne : i ≢ 0 = omega arith in
      cond-false _ _ _ (ne_eqb _ _ ne) ∙ (cond-false _ _ _ (lt-leb _ _ inside) ∙ cond-true _ _ _ (lt-ltb _ _ h))

  pub front_right : size l ≤ i → front (node l r) i ≡ concat l (front r (i - size l))
  unfolding front
  front_right h =
      let ne : i ≢ 0 = omega arith in
      cond-false _ _ _ (ne_eqb _ _ ne) ∙ (cond-false _ _ _ (lt-leb _ _ inside) ∙ cond-false _ _ _ (le-ltb _ _ h))

  pub back_left : i < size l → back (node l r) i ≡ concat (back l i) r
  unfolding back
  back_left h =
      let ne : i ≢ 0 = omega arith in
      cond-false _ _ _ (ne_eqb _ _ ne) ∙ (cond-false _ _ _ (lt-leb _ _ inside) ∙ cond-true _ _ _ (lt-ltb _ _ h))

  pub back_right : size l ≤ i → back (node l r) i ≡ back r (i - size l)
  unfolding back
  back_right h =
      let ne : i ≢ 0 = omega arith in
      cond-false _ _ _ (ne_eqb _ _ ne) ∙ (cond-false _ _ _ (lt-leb _ _ inside) ∙ cond-false _ _ _ (le-ltb _ _ h))
