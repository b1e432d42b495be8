-- What making a node does to a row.
use Rattle.std.proofs.Common.{◌≡◌, ℕ, ◌+◌, ◌*◌, ◌<◌, ◌≤◌, ◌≢◌, List, [], ◌∷◌, length, get_or, drop, sym, refl, ap, ◌∙◌, subst, inl, inr, arith}
use Rattle.std.proofs.lemmas.Bool.{cases_eq}
use Rattle.cells.specs.Layout.{cell, at, put, filled, first_dead}
use Rattle.cells.specs.Tree.{Tree, node, Val}
use Rattle.cells.specs.Sound.{hit, occ, Known, Counted, DeadList, Ranked, Sound}
use Rattle.cells.specs.Have.{Item, item, refs, Stand, Have}
use Rattle.cells.specs.Steps.{Kept, Making, Made, Dropped, Reusing}
use Rattle.cells.proofs.Rows.{length_put, at_cell, cell_other, at_put, at_other, length_filled, cell_filled, cell_filled_other, state_filled}
use Rattle.cells.proofs.Tallies.{hit_eq, hit_ne}
use Rattle.cells.proofs.Changes.{Near, Apart, apart, not_held, counted_change, listed_less, ranked_fill, val_apart}
use Rattle.cells.proofs.Held.{stand_on}
use Rattle.cells.proofs.Sharings.{kept_put, kept_on}
use Rattle.cells.proofs.Trees.{tree_of}

-- the words of a cell that was written
pub record Written (m : List ℕ) (d l r : ℕ) (w : List ℕ) : Type 0 where
  pub count : at m d 0 ≡ 1
  pub left : at m d 1 ≡ l
  pub right : at m d 2 ≡ r
  pub word : drop 3 (cell m d) ≡ w

pub written : (m : List ℕ) (d l r : ℕ) (w : List ℕ) → cell m d ≡ 1 ∷ (l ∷ (r ∷ w)) → Written m d l r w
unfolding at
written m d l r w e = record { count = ap (λ c. get_or c 0 0) e; left = ap (λ c. get_or c 1 0) e; right = ap (λ c. get_or c 2 0) e; word = ap (drop 3) e }

-- the first dead cell
pub first_inside : (m xs : List ℕ) (d : ℕ) → Sound m xs → d ≡ first_dead m → d ≢ 0 → (8 ≤ d) × (16 * d + 16 ≤ length m)
first_inside m xs d s is some = go s.dead s.listed
  where
    go : (dead : List ℕ) → DeadList m s.cells dead → (8 ≤ d) × (16 * d + 16 ≤ length m)
    go [] b = absurd (omega (arith, b.chain))
    go (e ∷ dead) b =
        let i = b.inside e (omega (arith, hit_eq e e refl)) in
        (omega (arith, b.chain.0, i.0), omega (arith, b.chain.0, i.1, s.counted.fits))

-- a value that stays, at a child's place
pub child_val : (m : List ℕ) (p q : ℕ) (v : Tree) → q ≡ p → Val m p v → Val m q v
child_val m p q v e h = subst (λ z. Val m z v) (sym e) h

-- d was dead, and is written; what were its children are held in the place of what are
module _ (m m' : List ℕ) (d l r : ℕ) (w : List ℕ) (near : Near m m' d) (head : first_dead m' ≡ at m d 3) (is : Written m' d l r w) where
  reuse_sound : (xs : List ℕ) (n : ℕ) (dead : List ℕ) → Counted m (l ∷ (r ∷ xs)) n → DeadList m n (d ∷ dead) → Ranked m n
      → Sound m' (at m d 1 ∷ (at m d 2 ∷ (d ∷ xs))) × Apart m n d × (occ d (l ∷ (r ∷ xs)) ≡ 0)
  reuse_sound xs n dead c b t =
      let a = at m d 1 in
      let e = at m d 2 in
      let self = hit_eq d d refl in
      let i = b.inside d (omega arith) in
      let lo = i.0 in
      let hi = i.1 in
      let none_left : at m d 0 ≡ 0 =
      elim (cases_eq (at m d 0) 0) [ inl y ↦ y | inr y ↦ absurd (omega (arith, b.deads d lo hi, hit_ne (at m d 0) 0 y)) ] in
      let sum = c.counts d lo hi in
      let alone = apart m n d (omega arith) in
      let free : occ d (l ∷ (r ∷ xs)) ≡ 0 = omega arith in
      let no_l : l ≢ d = λ z. omega (arith, hit_eq l d z) in
      let no_r : r ≢ d = λ z. omega (arith, hit_eq r d z) in
      let known_l = c.holds l (omega (arith, hit_eq l l refl)) in
      let known_r = c.holds r (omega (arith, hit_eq r r refl)) in
      let known_a = c.left d lo hi in
      let known_e = c.right d lo hi in (
        record {
          cells = n;
          dead = dead;
          counted =
              counted_change m m' n d near lo hi (l ∷ (r ∷ xs)) (a ∷ (e ∷ (d ∷ xs))) c
              (λ q h. elim (cases_eq a q) [
                | inl y ↦ subst (Known n) y known_a
                | inr na ↦ elim (cases_eq e q) [
                  | inl y ↦ subst (Known n) y known_e
                  | inr ne ↦ elim (cases_eq d q) [
                    | inl y ↦ λ one. (omega arith, omega arith)
                    | inr nd ↦ c.holds q (omega (arith, hit_ne a q na, hit_ne e q ne, hit_ne d q nd))
                  ]
                ]
              ])
              (subst (Known n) (sym is.left) known_l) (subst (Known n) (sym is.right) known_r)
              (λ q lq hq. (
              let hl = ap (λ z. hit z q) is.left in
              let hr = ap (λ z. hit z q) is.right in
              elim (cases_eq q d) [
                | inl y ↦ omega (arith, hl, hr, is.count, ap (λ z. at m' z 0) y, ap (λ z. at m z 0) y, hit_eq d q (sym y))
                | inr ne ↦ omega (arith, hl, hr, at_cell m m' q (near.others q lq ne) 0, hit_ne d q (λ y. ne (sym y)))
              ]));
          listed = listed_less m m' n d near lo hi dead b head (omega (arith, is.count));
          ranked =
              ranked_fill m m' n n d t alone (λ y. no_l (sym is.left ∙ y)) (λ y. no_r (sym is.right ∙ y))
              (λ q lq hq ne. hq) (λ q lq hq ne. near.others q lq ne);
        },
        alone,
        free,
      )

  -- with the trees of what were its children
  reuse_have : (n : ℕ) (dead : List ℕ) (u v : Tree) (rest : List Item) → Counted m (l ∷ (r ∷ refs rest)) n → DeadList m n (d ∷ dead) → Ranked m n
      → Stand m (item l u ∷ (item r v ∷ rest))
      → (a b : Tree) × Have m' (item (at m d 1) a ∷ (item (at m d 2) b ∷ (item d (node u v w) ∷ rest)))
  reuse_have n dead u v rest c b t stand =
      let r3 = reuse_sound (refs rest) n dead c b t in
      let s = r3.0 in
      let self = hit_eq d d refl in
      let i = b.inside d (omega arith) in
      let keep : (p : ℕ) (x : Tree) → 0 < occ p (l ∷ (r ∷ refs rest)) → Val m p x → Val m' p x = λ p x o.
      val_apart m m' (l ∷ (r ∷ refs rest)) n d c r3.1 (λ q lq hq ne. near.others q lq ne) x p (c.holds p o) (not_held d (l ∷ (r ∷ refs rest)) r3.2 p o) in
      let a = tree_of m' (at m d 1 ∷ (at m d 2 ∷ (d ∷ refs rest))) s (at m d 1) (s.counted.holds (at m d 1) (omega (arith, hit_eq (at m d 1) (at m d 1) refl))) in
      let e = tree_of m' (at m d 1 ∷ (at m d 2 ∷ (d ∷ refs rest))) s (at m d 2) (s.counted.holds (at m d 2) (omega (arith, hit_eq (at m d 2) (at m d 2) refl))) in (
        a.0,
        e.0,
        record {
          sound = s;
          stand = (
            a.1,
            (
              e.1,
              (
                (
                  i.0,
                  child_val m' l (at m' d 1) u is.left (keep l u (omega (arith, hit_eq l l refl)) stand.0),
                  child_val m' r (at m' d 2) v is.right (keep r v (omega (arith, hit_eq r r refl)) stand.1.0),
                  is.word,
                ),
                stand_on m m' rest (λ p x o. keep p x (omega arith)) stand.1.1,
              ),
            ),
          );
        },
      )

-- The first dead cell d leaves the dead ones, is written, and its old children are let go.
module _ (m : List ℕ) (d l r : ℕ) (w : List ℕ) (thirteen : length w ≡ 13) (is : d ≡ first_dead m) (lo : 8 ≤ d) (within : 16 * d + 16 ≤ length m) where
  m1 : List ℕ
  m1 = put m 0 1 (at m d 3)

  long1 : 16 * d + 16 ≤ length m1
  unfolding m1
  long1 = omega (arith, length_put m 0 1 (at m d 3))

  near_reuse : Near m (filled m1 d l r w) d
  unfolding m1
  near_reuse =
      record {
        long = length_filled m1 w d l r thirteen long1 ∙ length_put m 0 1 (at m d 3);
        top =
            at_cell m1 (filled m1 d l r w) 0 (cell_filled_other m1 w d l r thirteen long1 0 (omega arith)) 0
            ∙ at_other m 0 1 (at m d 3) 0 0 (omega arith) (omega arith) (omega arith);
        others = λ q l0 ne. cell_filled_other m1 w d l r thirteen long1 q ne ∙ cell_other m 0 1 (at m d 3) q (omega arith) (omega arith);
      }

  head_reuse : first_dead (filled m1 d l r w) ≡ at m d 3
  unfolding m1
  head_reuse =
      at_cell m1 (filled m1 d l r w) 0 (cell_filled_other m1 w d l r thirteen long1 0 (omega arith)) 1
      ∙ at_put m 0 1 (at m d 3) (omega arith) (omega arith)

  pub reused : (u v : Tree) (rest : List Item) → Have m (item l u ∷ (item r v ∷ rest))
      → (a b : Tree) × Have (filled (put m 0 1 (at m d 3)) d l r w) (item (at m d 1) a ∷ (item (at m d 2) b ∷ (item d (node u v w) ∷ rest)))
  unfolding m1
  reused u v rest h = go h.sound.dead h.sound.listed
    where
      go : (dead : List ℕ) → DeadList m h.sound.cells dead
          → (a b : Tree) × Have (filled (put m 0 1 (at m d 3)) d l r w) (item (at m d 1) a ∷ (item (at m d 2) b ∷ (item d (node u v w) ∷ rest)))
      go [] b = absurd (omega (arith, b.chain))
      go (e ∷ dead) b =
          let same : e ≡ d = sym b.chain.0 ∙ sym is in
          reuse_have m (filled m1 d l r w) d l r w near_reuse head_reuse (written (filled m1 d l r w) d l r w (cell_filled m1 w d l r thirteen long1))
          h.sound.cells dead u v rest h.sound.counted (subst (λ z. DeadList m h.sound.cells (z ∷ dead)) same b) h.sound.ranked h.stand

  pub kept_reuse : Kept m (filled (put m 0 1 (at m d 3)) d l r w)
  unfolding m1
  kept_reuse =
      kept_on m m1 (filled m1 d l r w) (kept_put m 0 1 (at m d 3) (λ one. absurd (omega arith)) (omega arith))
      (record { long = length_filled m1 w d l r thirteen long1; state = state_filled m1 w d l r thirteen long1 lo })

-- the cell that is used again
pub reuse_inside : (m : List ℕ) (d l r : ℕ) → Reusing m d l r → (8 ≤ d) × (16 * d + 16 ≤ length m)
reuse_inside m d l r a = first_inside m (l ∷ (r ∷ refs a.making.rest)) d a.making.have.sound a.first a.some

-- The steps of using it again: it is written, and what were its children, a and b, are let go.
module _ (m m2 : List ℕ) (d l r a b : ℕ) (w : List ℕ) (using_it : Reusing m d l r) (thirteen : length w ≡ 13) (is : m2 ≡ filled (put m 0 1 (at m d 3)) d l r w)
    (is_a : a ≡ at (put m 0 1 (at m d 3)) d 1) (is_b : b ≡ at (put m 0 1 (at m d 3)) d 2) where
  in_d : (8 ≤ d) × (16 * d + 16 ≤ length m)
  in_d = reuse_inside m d l r using_it

  old_child : (k : ℕ) → at (put m 0 1 (at m d 3)) d k ≡ at m d k
  old_child k = let lo = in_d.0 in at_cell m (put m 0 1 (at m d 3)) d (cell_other m 0 1 (at m d 3) d (omega arith) (omega arith)) k

  pub after_fill : (u v : Tree) (rest : List Item) → Have m (item l u ∷ (item r v ∷ rest)) → (x y : Tree) × Have m2 (item a x ∷ (item b y ∷ (item d (node u v w) ∷ rest)))
  after_fill u v rest h =
      let t = reused m d l r w thirteen using_it.first in_d.0 in_d.1 u v rest h in
      let ea : at m d 1 ≡ a = sym (is_a ∙ old_child 1) in
      let eb : at m d 2 ≡ b = sym (is_b ∙ old_child 2) in (
        t.0,
        t.1,
        subst (λ z. Have z (item a t.0 ∷ (item b t.1 ∷ (item d (node u v w) ∷ rest)))) (sym is)
            (subst (λ z. Have (filled (put m 0 1 (at m d 3)) d l r w) (item a t.0 ∷ (item z t.1 ∷ (item d (node u v w) ∷ rest)))) eb
            (subst (λ z. Have (filled (put m 0 1 (at m d 3)) d l r w) (item z t.0 ∷ (item (at m d 2) t.1 ∷ (item d (node u v w) ∷ rest)))) ea t.2)),
      )

  pub after_drop : Making m2 a b
  after_drop =
      let p = using_it.making in
      let t = after_fill p.left p.right p.rest p.have in
      record { left = t.0; right = t.1; rest = item d (node p.left p.right w) ∷ p.rest; have = t.2 }

  pub reuse_made : (m3 : List ℕ) → Dropped m2 m3 a b → Made m m3 d l r w
  reuse_made m3 gone =
      record { have = λ u v rest h. (let t = after_fill u v rest h in gone.have t.0 t.1 (item d (node u v w) ∷ rest) t.2) }

  pub reuse_kept : (m3 : List ℕ) → Kept m2 m3 → Kept m m3
  reuse_kept m3 k =
      kept_on m m2 m3 (subst (λ z. Kept m z) (sym is) (kept_reuse m d l r w thirteen using_it.first in_d.0 in_d.1)) k
