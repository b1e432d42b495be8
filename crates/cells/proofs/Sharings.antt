-- What sharing and letting go do to a row.
use Rattle.std.proofs.Common.{◌≡◌, ℕ, ◌+◌, ◌*◌, ◌<◌, ◌≤◌, ◌≢◌, List, ◌∷◌, length, drop, sym, refl, ap, ◌∙◌, subst, inl, inr, arith}
use Rattle.std.proofs.lemmas.List.{drop-set-lt}
use Rattle.std.proofs.lemmas.Bool.{cases_eq}
use Rattle.cells.specs.Layout.{cell, at, put, with_dead, first_dead}
use Rattle.cells.specs.Tree.{Tree, none, node, Val}
use Rattle.cells.specs.Sound.{hit, occ, Known, Counted, Sound}
use Rattle.cells.specs.Have.{refs}
use Rattle.cells.specs.Steps.{Kept, Sharing, Shared, Holding, Released}
use Rattle.cells.proofs.Rows.{length_put, at_cell, cell_put, cell_other, at_put, at_other, state_put}
use Rattle.cells.proofs.Tallies.{hit_eq, hit_ne, ins_le, occ_le}
use Rattle.cells.proofs.Changes.{Near, Body, body, apart, not_held, counted_change, listed_live, listed_more, ranked_same, val_apart, val_body}
use Rattle.cells.proofs.Held.{stand_on, length_refs, sound_some, sound_none, held}

pub near_put : (m : List ℕ) (d k x : ℕ) → 8 ≤ d → k < 16 → Near m (put m d k x) d
near_put m d k x lo h =
    record {
      long = length_put m d k x;
      top = at_cell m (put m d k x) 0 (cell_other m d k x 0 h (omega arith)) 0;
      others = λ q l ne. cell_other m d k x q h ne;
    }

pub head_put : (m : List ℕ) (d k x : ℕ) → 8 ≤ d → k < 16 → first_dead (put m d k x) ≡ first_dead m
head_put m d k x lo h = at_cell m (put m d k x) 0 (cell_other m d k x 0 h (omega arith)) 1

pub kept_put : (m : List ℕ) (d k x : ℕ) → (1 ≤ d → 8 ≤ d) → k < 16 → Kept m (put m d k x)
kept_put m d k x far h = record { long = length_put m d k x; state = state_put m d k x h far }

pub kept_on : (m m' m'' : List ℕ) → Kept m m' → Kept m' m'' → Kept m m''
kept_on m m' m'' a b = record { long = b.long ∙ a.long; state = b.state ∙ a.state }

pub kept_same : (m : List ℕ) → Kept m m
kept_same m = record { long = refl; state = refl }

-- a count is written: the rest of the cell is as it was
pub body_count : (m : List ℕ) (d x q : ℕ) → Body m (put m d 0 x) q
body_count m d x q =
    elim (cases_eq q d) [
      | inl e ↦ subst (λ z. Body m (put m d 0 x) z) (sym e) (record {
        left = at_other m d 0 x d 1 (omega arith) (omega arith) (omega arith);
        right = at_other m d 0 x d 2 (omega arith) (omega arith) (omega arith);
        word = ap (drop 3) (cell_put m d 0 x (omega arith)) ∙ drop-set-lt 3 (cell m d) 0 x (omega arith);
      })
      | inr ne ↦ body m (put m d 0 x) q (cell_other m d 0 x q (omega arith) ne)
    ]

-- the count of d is written, so that it is right for what is held
counted_count : (m xs ys : List ℕ) (n d x : ℕ) → Counted m xs n → 8 ≤ d → d < 8 + n → 16 * d + 16 ≤ length m
    → ((q : ℕ) → 0 < occ q ys → Known n q) → ((q : ℕ) → q ≢ d → occ q ys ≡ occ q xs) → x + occ d xs ≡ at m d 0 + occ d ys → Counted (put m d 0 x) ys n
counted_count m xs ys n d x s lo hi within holds same is =
    let m' = put m d 0 x in
    let near = near_put m d 0 x lo (omega arith) in
    let b = body_count m d x d in
    counted_change m m' n d near lo hi xs ys s holds
    (subst (Known n) (sym b.left) (s.left d lo hi)) (subst (Known n) (sym b.right) (s.right d lo hi))
    (λ q l h. (
    let left = ap (λ z. hit z q) b.left in
    let right = ap (λ z. hit z q) b.right in
    elim (cases_eq q d) [
      | inl e ↦
          omega (
            arith,
            is,
            at_put m d 0 x (omega arith) within,
            left,
            right,
            ap (λ z. at m' z 0) e,
            ap (λ z. at m z 0) e,
            ap (λ z. occ z xs) e,
            ap (λ z. occ z ys) e,
          )
      | inr ne ↦ omega (arith, at_cell m m' q (near.others q l ne) 0, same q ne, left, right)
    ]))

-- what stands for a tree and is not none is a cell
low : (m : List ℕ) (p : ℕ) (v : Tree) → 1 ≤ p → Val m p v → 8 ≤ p
low m p none one e = absurd (omega arith)
low m p (node l r w) one v = v.0

-- one more count fits a word
pub count_fits : (m : List ℕ) (p : ℕ) → Sharing m p → 1 ≤ p → (8 ≤ p) × (16 * p + 16 ≤ length m) × (at m p 0 < 4294967295)
count_fits m p a one =
    let s = a.have.sound in
    let n = s.cells in
    let below = a.lent.below one in
    let lo : 8 ≤ p = low m p a.tree one a.lent.stands in
    let hi : p < 8 + n = omega (arith, s.counted.top) in (
      lo,
      omega (arith, s.counted.fits),
      omega (arith, s.counted.counts p lo hi, s.counted.few, occ_le p (refs a.rest), length_refs a.rest, a.few, ins_le m 1 p n, ins_le m 2 p n),
    )

pub shared_none : (m : List ℕ) (p : ℕ) → p ≡ 0 → Shared m m p
shared_none m p e =
    record {
      have = λ v rest l h. record { sound = subst (λ z. Sound m (z ∷ refs rest)) (sym e) (sound_some m (refs rest) h.sound); stand = (l.stands, h.stand) };
      lent = λ q v l. l;
    }

pub shared_some : (m : List ℕ) (p : ℕ) → 8 ≤ p → 16 * p + 16 ≤ length m → Shared m (put m p 0 (at m p 0 + 1)) p
shared_some m p lo within =
    let x = at m p 0 + 1 in
    let m' = put m p 0 x in
    let near = near_put m p 0 x lo (omega arith) in
    let self = hit_eq p p refl in
    let is = at_put m p 0 x (omega arith) within in
    let keep = val_body m m' (λ q l. body_count m p x q) in
    record {
      have = λ v rest l h.
          let s = h.sound in
          let n = s.cells in
          let hi : p < 8 + n = omega (arith, l.below (omega arith), s.counted.top) in
          let live = l.live (omega arith) in
          record {
            sound = record {
              cells = n;
              dead = s.dead;
              counted =
                  counted_count m (refs rest) (p ∷ refs rest) n p x s.counted lo hi within
                  (λ q o one. elim (cases_eq q p) [
                    | inl e ↦ (omega arith, omega arith)
                    | inr ne ↦ s.counted.holds q (omega (arith, hit_ne p q (λ e. ne (sym e)))) one
                  ])
                  (λ q ne. omega (arith, hit_ne p q (λ e. ne (sym e))))
                  (omega arith);
              listed = listed_live m m' n p near lo hi s.dead s.listed (head_put m p 0 x lo (omega arith)) live (omega arith);
              ranked = ranked_same m m' n p near lo hi s.ranked (body_count m p x p).left (body_count m p x p).right;
            };
            stand = (keep v p l.stands, stand_on m m' rest (λ q u o. keep u q) h.stand);
          };
      lent = λ q v l.
          record {
            stands = keep v q l.stands;
            below = λ one. omega (arith, l.below one, near.top);
            live = λ one. elim (cases_eq q p) [
              | inl e ↦ omega (arith, is, ap (λ z. at m' z 0) e)
              | inr ne ↦ omega (arith, l.live one, at_cell m m' q (near.others q (low m q v one l.stands) ne) 0)
            ];
          };
    }

pub released_none : (m : List ℕ) (p : ℕ) → p ≡ 0 → Released m m p
released_none m p e =
    record { have = λ v rest h. record { sound = sound_none m (refs rest) (subst (λ z. Sound m (z ∷ refs rest)) e h.sound); stand = h.stand.1 } }

-- a held cell has a count
pub held_count : (m : List ℕ) (p : ℕ) → Holding m p → 1 ≤ p → (8 ≤ p) × (16 * p + 16 ≤ length m) × (1 ≤ at m p 0)
held_count m p a one = let k = held m (refs a.rest) p one a.have.sound in (k.low, k.within, k.live)

-- one count fewer, and the cell is alive
pub released_live : (m : List ℕ) (p x : ℕ) → 8 ≤ p → x + 1 ≡ at m p 0 → 1 ≤ x → Released m (put m p 0 x) p
released_live m p x lo is live =
    let m' = put m p 0 x in
    let near = near_put m p 0 x lo (omega arith) in
    let self = hit_eq p p refl in
    let keep = val_body m m' (λ q l. body_count m p x q) in
    record {
      have = λ v rest h.
          let s = h.sound in
          let n = s.cells in
          let k = held m (refs rest) p (omega arith) s in
          record {
            sound = record {
              cells = n;
              dead = s.dead;
              counted =
                  counted_count m (p ∷ refs rest) (refs rest) n p x s.counted lo k.high k.within
                  (λ q o. s.counted.holds q (omega arith))
                  (λ q ne. omega (arith, hit_ne p q (λ e. ne (sym e))))
                  (omega arith);
              listed =
                  listed_live m m' n p near lo k.high s.dead s.listed (head_put m p 0 x lo (omega arith)) k.live
                  (omega (arith, at_put m p 0 x (omega arith) k.within));
              ranked = ranked_same m m' n p near lo k.high s.ranked (body_count m p x p).left (body_count m p x p).right;
            };
            stand = stand_on m m' rest (λ q u o. keep u q) h.stand.1;
          };
    }

-- no count is left, and the cell joins the dead ones
module _ (m : List ℕ) (p : ℕ) (lo : 8 ≤ p) where
  m1 : List ℕ
  m1 = put m p 0 0

  m2 : List ℕ
  unfolding m1
  m2 = put m1 p 3 (first_dead m1)

  m3 : List ℕ
  unfolding m1 m2
  m3 = put m2 0 1 p

  near_dead : Near m m3 p
  unfolding m1 m2 m3
  near_dead =
      let a = near_put m p 0 0 lo (omega arith) in
      let b = near_put m1 p 3 (first_dead m1) lo (omega arith) in
      record {
        long = length_put m2 0 1 p ∙ b.long ∙ a.long;
        top = at_other m2 0 1 p 0 0 (omega arith) (omega arith) (omega arith) ∙ b.top ∙ a.top;
        others = λ q l ne. cell_other m2 0 1 p q (omega arith) (omega arith) ∙ b.others q l ne ∙ a.others q l ne;
      }

  dead_word : (k : ℕ) → k < 16 → k ≢ 3 → at m3 p k ≡ at m1 p k
  unfolding m1 m2 m3
  dead_word k lt n3 =
      at_cell m2 m3 p (cell_other m2 0 1 p p (omega arith) (omega arith)) k ∙ at_other m1 p 3 (first_dead m1) p k (omega arith) lt n3

  pub kept_dead : Kept m (with_dead (put m p 0 0) p)
  kept_dead =
      kept_on m (put m p 0 0) (with_dead (put m p 0 0) p) (kept_put m p 0 0 (λ _. lo) (omega arith))
      (kept_on (put m p 0 0) (put (put m p 0 0) p 3 (first_dead (put m p 0 0))) (with_dead (put m p 0 0) p)
      (kept_put (put m p 0 0) p 3 (first_dead (put m p 0 0)) (λ _. lo) (omega arith))
      (kept_put (put (put m p 0 0) p 3 (first_dead (put m p 0 0))) 0 1 p (λ one. absurd (omega arith)) (omega arith)))

  pub released_dead : at m p 0 ≡ 1 → Released m (with_dead (put m p 0 0) p) p
  unfolding m1 m2 m3
  released_dead one =
      let near = near_dead in
      let self = hit_eq p p refl in
      record {
        have = λ v rest h.
            let s = h.sound in
            let n = s.cells in
            let xs = refs rest in
            let k = held m xs p (omega arith) s in
            let l1 = length_put m p 0 0 in
            let l2 = length_put m1 p 3 (first_dead m1) in
            let zero_count : at m3 p 0 ≡ 0 = dead_word 0 (omega arith) (omega arith) ∙ at_put m p 0 0 (omega arith) k.within in
            let left : at m3 p 1 ≡ at m p 1 = dead_word 1 (omega arith) (omega arith) ∙ at_other m p 0 0 p 1 (omega arith) (omega arith) (omega arith) in
            let right : at m3 p 2 ≡ at m p 2 = dead_word 2 (omega arith) (omega arith) ∙ at_other m p 0 0 p 2 (omega arith) (omega arith) (omega arith) in
            let is = s.counted.counts p lo k.high in
            let free : occ p xs ≡ 0 = omega arith in
            let alone = apart m n p (omega arith) in
            record {
              sound = record {
                cells = n;
                dead = p ∷ s.dead;
                counted =
                    counted_change m m3 n p near lo k.high (p ∷ xs) xs s.counted
                    (λ q o. s.counted.holds q (omega arith))
                    (subst (Known n) (sym left) (s.counted.left p lo k.high)) (subst (Known n) (sym right) (s.counted.right p lo k.high))
                    (λ q l hq. (
                    let hl = ap (λ z. hit z q) left in
                    let hr = ap (λ z. hit z q) right in
                    elim (cases_eq q p) [
                      | inl e ↦ omega (arith, hl, hr, ap (λ z. at m3 z 0) e, ap (λ z. at m z 0) e, hit_eq p q (sym e))
                      | inr ne ↦ omega (arith, hl, hr, at_cell m m3 q (near.others q l ne) 0, hit_ne p q (λ e. ne (sym e)))
                    ]));
                listed =
                    listed_more m m3 n p near lo k.high s.dead s.listed
                    (at_put m2 0 1 p (omega arith) (omega (arith, k.within)))
                    (at_cell m2 m3 p (cell_other m2 0 1 p p (omega arith) (omega arith)) 3
                    ∙ at_put m1 p 3 (first_dead m1) (omega arith) (omega (arith, k.within))
                    ∙ head_put m p 0 0 lo (omega arith))
                    k.live zero_count;
                ranked = ranked_same m m3 n p near lo k.high s.ranked left right;
              };
              stand =
                  stand_on m m3 rest
                  (λ q u o. val_apart m m3 (p ∷ xs) n p s.counted alone (λ z l hz ne. near.others z l ne) u q (s.counted.holds q (omega arith)) (not_held p xs free q o))
                  h.stand.1;
            };
      }
