-- Held and lent references, and what leaves them as they are.
use Rattle.std.proofs.Common.{◌≡◌, ℕ, suc, ◌+◌, ◌*◌, ◌<◌, ◌≤◌, List, [], ◌∷◌, length, drop, sym, refl, ap, ◌∙◌, subst, arith}
use Rattle.cells.specs.Layout.{cell, at, taken, first_dead}
use Rattle.cells.specs.Tree.{Tree, none, node, Val}
use Rattle.cells.specs.Sound.{hit, occ, Chain, Known, Counted, Sound}
use Rattle.cells.specs.Have.{Item, item, refs, Stand, Have, Lent}
use Rattle.cells.proofs.Rows.{at_cell}
use Rattle.cells.proofs.Tallies.{hit_eq, hit_ne, ins_one, ins_same, chain_move}
use Rattle.cells.proofs.Changes.{sound_same}

-- what holds of each held reference and its tree
pub stand_on : (m m' : List ℕ) (xs : List Item) → ((p : ℕ) (v : Tree) → 0 < occ p (refs xs) → Val m p v → Val m' p v) → Stand m xs → Stand m' xs
stand_on m m' [] keep s = tt
stand_on m m' (item p v ∷ xs) keep s =
    (keep p v (omega (arith, hit_eq p p refl)) s.0, stand_on m m' xs (λ q u h. keep q u (omega arith)) s.1)

pub length_refs : (xs : List Item) → length (refs xs) ≡ length xs
length_refs [] = refl
length_refs (x ∷ xs) = ap suc (length_refs xs)

-- the order of what is held does not matter
pub reorder : (m : List ℕ) (xs ys : List Item) → ((p : ℕ) → occ p (refs xs) ≡ occ p (refs ys)) → (Stand m xs → Stand m ys) → Have m xs → Have m ys
reorder m xs ys same stand h = record { sound = sound_same m (refs xs) (refs ys) (λ p _. same p) h.sound; stand = stand h.stand }

-- none more or fewer
pub sound_some : (m xs : List ℕ) → Sound m xs → Sound m (0 ∷ xs)
sound_some m xs s = sound_same m xs (0 ∷ xs) (λ p one. omega (arith, hit_ne 0 p (omega arith))) s

pub sound_none : (m xs : List ℕ) → Sound m (0 ∷ xs) → Sound m xs
sound_none m xs s = sound_same m (0 ∷ xs) xs (λ p one. omega (arith, hit_ne 0 p (omega arith))) s

-- none may be held more often or less
pub have_none : (m : List ℕ) (xs : List Item) → Have m xs → Have m (item 0 none ∷ xs)
have_none m xs h = record { sound = sound_some m (refs xs) h.sound; stand = (refl, h.stand) }

pub none_have : (m : List ℕ) (xs : List Item) → Have m (item 0 none ∷ xs) → Have m xs
none_have m xs h = record { sound = sound_none m (refs xs) h.sound; stand = h.stand.1 }

pub none_second : (m : List ℕ) (x : Item) (xs : List Item) → Have m (x ∷ xs) → Have m (x ∷ (item 0 none ∷ xs))
none_second m x xs h = reorder m (item 0 none ∷ (x ∷ xs)) (x ∷ (item 0 none ∷ xs)) (λ p. omega arith) (λ s. (s.1.0, (s.0, s.1.1))) (have_none m (x ∷ xs) h)

-- what is known of a cell that is held
pub record Held (m : List ℕ) (p n : ℕ) : Type 0 where
  pub low : 8 ≤ p
  pub high : p < 8 + n
  pub within : 16 * p + 16 ≤ length m
  pub live : 1 ≤ at m p 0

pub held : (m xs : List ℕ) (p : ℕ) → 1 ≤ p → (s : Sound m (p ∷ xs)) → Held m p s.cells
held m xs p one s =
    let self = hit_eq p p refl in
    let k = s.counted.holds p (omega arith) one in
    record {
      low = k.0;
      high = k.1;
      within = omega (arith, s.counted.fits, k.1);
      live = omega (arith, s.counted.counts p k.0 k.1);
    }

-- a held reference is lent
pub lend : (m : List ℕ) (p : ℕ) (v : Tree) (rest : List Item) → Have m (item p v ∷ rest) → Lent m p v
lend m p v rest h =
    record {
      stands = h.stand.0;
      below = λ one. omega (arith, (held m (refs rest) p one h.sound).high, h.sound.counted.top);
      live = λ one. (held m (refs rest) p one h.sound).live;
    }

-- the children of what is lent are
module _ (m : List ℕ) (p : ℕ) (u v : Tree) (w : List ℕ) (rest : List Item) (h : Have m rest) (lent : Lent m p (node u v w)) where
  inside : p < 8 + h.sound.cells
  inside = let lo = lent.stands.0 in omega (arith, lent.below (omega arith), h.sound.counted.top)

  pub lend_left : Lent m (at m p 1) u
  lend_left =
      let a = h.sound.counted in
      let lo = lent.stands.0 in
      let k = a.left p lo inside in
      record {
        stands = lent.stands.1;
        below = λ one. omega (arith, (k one).1, a.top);
        live = λ one. omega (arith, a.counts (at m p 1) (k one).0 (k one).1, ins_one m 1 (at m p 1) p h.sound.cells lo inside refl);
      }

  pub lend_right : Lent m (at m p 2) v
  lend_right =
      let a = h.sound.counted in
      let lo = lent.stands.0 in
      let k = a.right p lo inside in
      record {
        stands = lent.stands.2;
        below = λ one. omega (arith, (k one).1, a.top);
        live = λ one. omega (arith, a.counts (at m p 2) (k one).0 (k one).1, ins_one m 2 (at m p 2) p h.sound.cells lo inside refl);
      }

-- Rows that agree in the number of cells, the first dead one and the cells hold the same.
pub record Agree (m m' : List ℕ) : Type 0 where
  pub long : length m ≤ length m'
  pub top : taken m' ≡ taken m
  pub head : first_dead m' ≡ first_dead m
  pub cells : (q : ℕ) → 8 ≤ q → 16 * q + 16 ≤ length m → cell m' q ≡ cell m q

module _ (m m' : List ℕ) (a : Agree m m') where
  pub val_agree : (xs : List ℕ) (n : ℕ) → Counted m xs n → (v : Tree) (p : ℕ) → Known n p → Val m p v → Val m' p v
  val_agree xs n s none p known v = v
  val_agree xs n s (node l r w) p known v =
      let lo = v.0 in
      let hi = (known (omega arith)).1 in
      let e = a.cells p lo (omega (arith, s.fits)) in (
        lo,
        subst (λ z. Val m' z l) (sym (at_cell m m' p e 1)) (val_agree xs n s l (at m p 1) (s.left p lo hi) v.1),
        subst (λ z. Val m' z r) (sym (at_cell m m' p e 2)) (val_agree xs n s r (at m p 2) (s.right p lo hi) v.2),
        ap (drop 3) e ∙ v.3,
      )

  sound_agree : (xs : List ℕ) → Sound m xs → Sound m' xs
  sound_agree xs s =
      let n = s.cells in
      let c = s.counted in
      let same : (q k : ℕ) → 8 ≤ q → q < 8 + n → at m' q k ≡ at m q k = λ q k lo hi. at_cell m m' q (a.cells q lo (omega (arith, c.fits))) k in
      record {
        cells = n;
        dead = s.dead;
        counted = record {
          top = a.top ∙ c.top;
          few = c.few;
          fits = omega (arith, c.fits, a.long);
          holds = c.holds;
          left = λ q lo hi. subst (Known n) (sym (same q 1 lo hi)) (c.left q lo hi);
          right = λ q lo hi. subst (Known n) (sym (same q 2 lo hi)) (c.right q lo hi);
          counts = λ q lo hi.
              omega (
                arith,
                same q 0 lo hi,
                c.counts q lo hi,
                ins_same m m' 1 q n (λ p l h. same p 1 l h),
                ins_same m m' 2 q n (λ p l h. same p 2 l h),
              );
        };
        listed = record {
          deads = λ q lo hi. s.listed.deads q lo hi ∙ ap (λ z. hit z 0) (sym (same q 0 lo hi));
          inside = s.listed.inside;
          chain =
              subst (λ z. Chain m' z s.dead) (sym a.head)
              (chain_move m m' (first_dead m) s.dead s.listed.chain
              (λ q h. (let i = s.listed.inside q h in same q 3 i.0 i.1)));
        };
        ranked = record {
          rank = s.ranked.rank;
          left = λ q lo hi o. omega (arith, ap s.ranked.rank (same q 1 lo hi), s.ranked.left q lo hi (omega (arith, same q 1 lo hi)));
          right = λ q lo hi o. omega (arith, ap s.ranked.rank (same q 2 lo hi), s.ranked.right q lo hi (omega (arith, same q 2 lo hi)));
        };
      }

  pub have_agree : (xs : List Item) → Have m xs → Have m' xs
  have_agree xs h =
      record {
        sound = sound_agree (refs xs) h.sound;
        stand = stand_on m m' xs (λ p v o. val_agree (refs xs) h.sound.cells h.sound.counted v p (h.sound.counted.holds p o)) h.stand;
      }
