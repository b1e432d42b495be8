-- An append rotates once at most: where it did, it is no higher, and where it is higher, it did not.
use Rattle.std.proofs.Common.{◌≡◌, ℕ, ◌+◌, ◌-◌, ◌<◌, ◌≤◌, ◌||◌, ltb, leb, ◌⊎◌, sym, ap, ◌∙◌, subst, inl, inr, ⊎_elim, arith}
use Rattle.std.proofs.lemmas.Bool.{ltb-true, ltb-false, leb-true, leb-false, le-ltb, cond_both, cond-false, and_parts, or_from, cases_lt}
use Rattle.ropes.specs.Rope.{Rope, empty, leaf, node, height, Inner, Whole}
use Rattle.ropes.specs.Join.{rotate_double, rotate_right, rotate_left, balance, fits_beside, append, prepend}
use Rattle.ropes.specs.Costs.{rotations}
use Rattle.ropes.proofs.Balance.{Fits, inner_some, balance_level}
use Rattle.ropes.proofs.Joins.{append_inner, prepend_inner, not_beside}

-- the children's heights differ
abbrev pub Skewed : Rope → Type 0
Skewed empty = ⊥
Skewed (leaf b) = ⊥
Skewed (node l r) = (height l ≡ height r + 1) ⊎ (height r ≡ height l + 1)

double_level : (a b c : Rope) → Inner a → Inner b → Inner c → height b ≡ height c + 1 → height a ≡ height c → height (rotate_double a b c) ≡ height b + 1
unfolding rotate_double
double_level a empty c ia ib ic hb ha = absurd ib
double_level a (leaf b) c ia ib ic hb ha = absurd (omega (arith, inner_some c ic))
double_level a (node x y) c ia ib ic hb ha = omega (arith, ib.2, ib.3)

right_level : (l r : Rope) → Inner l → Inner r → Skewed l → height l ≡ height r + 2 → height (rotate_right l r) ≡ height l
unfolding rotate_right
right_level empty r il ir s h = absurd il
right_level (leaf b) r il ir s h = absurd s
right_level (node a b) r il ir s h =
    cond_both (leb (height b) (height a)) _ _ (λ z. height z ≡ height (node a b))
    (λ e. let k : height b ≤ height a = leb-true _ _ e in omega (arith, s))
    (λ e. let k : height a < height b = leb-false _ _ e in
    omega (arith, s, double_level a b r il.0 il.1 ir (omega (arith, s)) (omega (arith, s))))

left_level : (l r : Rope) → Inner l → Inner r → Skewed r → height r ≡ height l + 2 → height (rotate_left l r) ≡ height r
unfolding rotate_left
left_level l empty il ir s h = absurd ir
left_level l (leaf b) il ir s h = absurd s
left_level l (node a b) il ir s h =
    cond_both (leb (height a) (height b)) _ _ (λ z. height z ≡ height (node a b))
    (λ e. let k : height a ≤ height b = leb-true _ _ e in omega (arith, s))
    (λ e. let k : height b < height a = leb-false _ _ e in
    omega (arith, s, double_level l a b il ir.0 ir.1 (omega (arith, s)) (omega (arith, s))))

-- a balance that rotates a skewed child is as high as that child
pub balance_right_level : (l r : Rope) → Inner l → Inner r → Skewed r → height r ≡ height l + 2 → height (balance l r) ≡ height r
unfolding balance
balance_right_level l r il ir s h =
    cond_both (ltb (height r + 1) (height l)) _ _ (λ z. height z ≡ height r)
    (λ e. absurd (omega (arith, ltb-true _ _ e)))
    (λ e. cond_both (ltb (height l + 1) (height r)) _ _ (λ z. height z ≡ height r)
    (λ f. left_level l r il ir s h)
    (λ f. absurd (omega (arith, ltb-false _ _ f))))

pub balance_left_level : (l r : Rope) → Inner l → Inner r → Skewed l → height l ≡ height r + 2 → height (balance l r) ≡ height l
unfolding balance
balance_left_level l r il ir s h =
    cond_both (ltb (height r + 1) (height l)) _ _ (λ z. height z ≡ height l)
    (λ e. right_level l r il ir s h)
    (λ e. absurd (omega (arith, ltb-false _ _ e)))

pub rotations_none : (l r : Rope) → height l ≤ height r + 1 → height r ≤ height l + 1 → rotations l r ≡ 0
unfolding rotations
rotations_none l r hl hr = cond-false _ 1 0 (or_from _ _ (le-ltb _ _ hl) (le-ltb _ _ hr))

pub rotations_one : (l r : Rope) → rotations l r ≤ 1
unfolding rotations
rotations_one l r = cond_both (ltb (height r + 1) (height l) || ltb (height l + 1) (height r)) 1 0 (λ z. z ≤ 1) (λ e. omega arith) (λ e. omega arith)

-- two parts whose heights differ by one at most are the children of a node that isn't rotated
balance_node : (l r : Rope) → height l ≤ height r + 1 → height r ≤ height l + 1 → balance l r ≡ node l r
unfolding balance
balance_node l r hl hr = cond-false _ _ _ (le-ltb _ _ hl) ∙ cond-false _ _ _ (le-ltb _ _ hr)

-- what a rope r leaves of a part b that it went into: b', one higher at most, and skewed if it is, unless r was as high as b
pub record Grown (b r b' : Rope) : Type 0 where
  pub fits : Fits b' (height b)
  pub skewed : height b' ≡ height b + 1 → Skewed b' ⊎ (height b ≡ height r)

-- what doesn't fit beside r
abbrev pub Apart : Rope → ℕ → Type 0
Apart r h = (height r + 1 < h) ⊎ (height r ≤ 1)

not_level : (a b r : Rope) → Inner a → height b ≡ height a + 1 → Apart r (height b + 1) → height b ≡ height r → ⊥
not_level a b r ia hb apart e = omega (arith, inner_some a ia, apart)

-- r went into the right child b of a node
module _ (a b b' r : Rope) (i : Inner (node a b)) (g : Grown b r b') (apart : Apart r (height (node a b))) where
  right_rotated : height a + 2 ≤ height b' → height (balance a b') ≡ height (node a b)
  right_rotated q =
      let f = g.fits in
      let k : height b' ≡ height b + 1 = omega (arith, f.low, f.high, i.3) in
      let j : height b ≡ height a + 1 = omega (arith, f.high, i.3) in
      let top : height (node a b) ≡ height b + 1 = omega arith in
      ⊎_elim (λ s. omega (arith, balance_right_level a b' i.0 f.inner s (omega arith)))
      (λ e. absurd (not_level a b r i.0 j (subst (Apart r) top apart) e)) (g.skewed k)

  pub right_rotations : rotations a b' + (height (balance a b') - height (node a b)) ≤ height b' - height b
  right_rotations =
      let f = g.fits in
      ⊎_elim
      (λ (q : height b' < height a + 2).
      let p : height a ≤ height b' + 1 = omega (arith, f.low, i.2) in
      omega (arith, f.low, rotations_none a b' p (omega arith), balance_level a b' p (omega arith)))
      (λ (q : height a + 2 ≤ height b'). omega (arith, f.high, i.3, rotations_one a b', right_rotated q))
      (cases_lt (height b') (height a + 2))

  right_skewed : height (balance a b') ≡ height (node a b) + 1 → Skewed (balance a b')
  right_skewed e =
      let f = g.fits in
      ⊎_elim
      (λ (q : height b' < height a + 2).
      let p : height a ≤ height b' + 1 = omega (arith, f.low, i.2) in
      let is = balance_node a b' p (omega arith) in
      subst Skewed (sym is) (inr (omega (arith, ap height is))))
      (λ (q : height a + 2 ≤ height b'). absurd (omega (arith, right_rotated q)))
      (cases_lt (height b') (height a + 2))

-- and r into the left child a
module _ (a b a' r : Rope) (i : Inner (node a b)) (g : Grown a r a') (apart : Apart r (height (node a b))) where
  left_rotated : height b + 2 ≤ height a' → height (balance a' b) ≡ height (node a b)
  left_rotated q =
      let f = g.fits in
      let k : height a' ≡ height a + 1 = omega (arith, f.low, f.high, i.2) in
      let j : height a ≡ height b + 1 = omega (arith, f.high, i.2) in
      let top : height (node a b) ≡ height a + 1 = omega arith in
      ⊎_elim (λ s. omega (arith, balance_left_level a' b f.inner i.1 s (omega arith)))
      (λ e. absurd (not_level b a r i.1 j (subst (Apart r) top apart) e)) (g.skewed k)

  pub left_rotations : rotations a' b + (height (balance a' b) - height (node a b)) ≤ height a' - height a
  left_rotations =
      let f = g.fits in
      ⊎_elim
      (λ (q : height a' < height b + 2).
      let p : height b ≤ height a' + 1 = omega (arith, f.low, i.3) in
      omega (arith, f.low, rotations_none a' b (omega arith) p, balance_level a' b (omega arith) p))
      (λ (q : height b + 2 ≤ height a'). omega (arith, f.high, i.2, rotations_one a' b, left_rotated q))
      (cases_lt (height a') (height b + 2))

  left_skewed : height (balance a' b) ≡ height (node a b) + 1 → Skewed (balance a' b)
  left_skewed e =
      let f = g.fits in
      ⊎_elim
      (λ (q : height a' < height b + 2).
      let p : height b ≤ height a' + 1 = omega (arith, f.low, i.3) in
      let is = balance_node a' b (omega arith) p in
      subst Skewed (sym is) (inl (omega (arith, ap height is))))
      (λ (q : height b + 2 ≤ height a'). absurd (omega (arith, left_rotated q)))
      (cases_lt (height a') (height b + 2))

pub append_grown : (l r : Rope) → Inner l → Whole r → 1 ≤ height r → height r ≤ height l → Grown l r (append l r)
unfolding append
append_grown empty r il wr some le = absurd il
append_grown (leaf a) r il wr some le = record { fits = append_inner (leaf a) r il wr some le; skewed = λ e. inr (omega arith) }
append_grown (node a b) r il wr some le =
    record {
      fits = append_inner (node a b) r il wr some le;
      skewed = cond_both (fits_beside (height (node a b)) r) _ _ (λ z. height z ≡ height (node a b) + 1 → Skewed z ⊎ (height (node a b) ≡ height r))
          (λ e k. let p : height (node a b) ≤ height r + 1 = leb-true _ _ (and_parts _ _ e).0 in
          ⊎_elim (λ (q : height r < height (node a b)). inl (inl (omega arith))) (λ (q : height (node a b) ≤ height r). inr (omega arith)) (cases_lt (height r) (height (node a b))))
          (λ e k. let apart = not_beside (height (node a b)) r e in
          let some_b = inner_some b il.1 in
          inl (right_skewed a b (append b r) r il (append_grown b r il.1 wr some (omega (arith, il.2, il.3, apart))) apart k));
    }

pub prepend_grown : (l r : Rope) → Whole l → Inner r → 1 ≤ height l → height l ≤ height r → Grown r l (prepend l r)
unfolding prepend
prepend_grown l empty wl ir some le = absurd ir
prepend_grown l (leaf b) wl ir some le = record { fits = prepend_inner l (leaf b) wl ir some le; skewed = λ e. inr (omega arith) }
prepend_grown l (node a b) wl ir some le =
    record {
      fits = prepend_inner l (node a b) wl ir some le;
      skewed = cond_both (fits_beside (height (node a b)) l) _ _ (λ z. height z ≡ height (node a b) + 1 → Skewed z ⊎ (height (node a b) ≡ height l))
          (λ e k. let p : height (node a b) ≤ height l + 1 = leb-true _ _ (and_parts _ _ e).0 in
          ⊎_elim (λ (q : height l < height (node a b)). inl (inr (omega arith))) (λ (q : height (node a b) ≤ height l). inr (omega arith)) (cases_lt (height l) (height (node a b))))
          (λ e k. let apart = not_beside (height (node a b)) l e in
          let some_a = inner_some a ir.0 in
          inl (left_skewed a b (prepend l a) l ir (prepend_grown l a wl ir.0 some (omega (arith, ir.2, ir.3, apart))) apart k));
    }

-- each rotation of an append is paid for by a height that did not grow
pub append_rotations : (a b r : Rope) → Inner (node a b) → Whole r → 1 ≤ height r → height r ≤ height b → Apart r (height (node a b))
    → rotations a (append b r) + (height (balance a (append b r)) - height (node a b)) ≤ height (append b r) - height b
append_rotations a b r i w some le apart = right_rotations a b (append b r) r i (append_grown b r i.1 w some le) apart

pub prepend_rotations : (l a b : Rope) → Whole l → Inner (node a b) → 1 ≤ height l → height l ≤ height a → Apart l (height (node a b))
    → rotations (prepend l a) b + (height (balance (prepend l a) b) - height (node a b)) ≤ height (prepend l a) - height a
prepend_rotations l a b w i some le apart = left_rotations a b (prepend l a) l i (prepend_grown l a w i.0 some le) apart
