-- Rotations keep the bytes, and bring a node back into balance.
use Rattle.std.proofs.Common.{◌≡◌, ℕ, ◌+◌, ◌<◌, ◌≤◌, max, ltb, leb, ◌++◌, sym, refl, ◌∙◌, subst, ⊎_elim, append_assoc, arith}
use Rattle.std.proofs.lemmas.Bool.{ltb-true, ltb-false, leb-true, leb-false, cond_both, cases_lt}
use Rattle.ropes.specs.Rope.{Rope, empty, leaf, node, bytes, height, Inner}
use Rattle.ropes.specs.Join.{rotate_double, rotate_right, rotate_left, balance}

pub bytes_rotate_double : (a b r : Rope) → bytes (rotate_double a b r) ≡ (bytes a ++ bytes b) ++ bytes r
unfolding rotate_double
bytes_rotate_double a empty r = refl
bytes_rotate_double a (leaf b) r = refl
bytes_rotate_double a (node c d) r = simp append_assoc

pub bytes_rotate_right : (l r : Rope) → bytes (rotate_right l r) ≡ bytes l ++ bytes r
unfolding rotate_right
bytes_rotate_right empty r = refl
bytes_rotate_right (leaf b) r = refl
bytes_rotate_right (node a b) r = cond_both (leb (height b) (height a)) _ _ (λ z. bytes z ≡ (bytes a ++ bytes b) ++ bytes r) (λ e. simp append_assoc) (λ e. bytes_rotate_double a b r)

pub bytes_rotate_left : (l r : Rope) → bytes (rotate_left l r) ≡ bytes l ++ bytes r
unfolding rotate_left
bytes_rotate_left l empty = refl
bytes_rotate_left l (leaf b) = refl
bytes_rotate_left l (node a b) = cond_both (leb (height a) (height b)) _ _ (λ z. bytes z ≡ bytes l ++ (bytes a ++ bytes b)) (λ e. simp append_assoc) (λ e. bytes_rotate_double l a b ∙ append_assoc (bytes l) (bytes a) (bytes b))

pub bytes_balance : (l r : Rope) → bytes (balance l r) ≡ bytes l ++ bytes r
unfolding balance
bytes_balance l r =
    let P : Rope → Type 0 = λ z. bytes z ≡ bytes l ++ bytes r in
    cond_both (ltb (height r + 1) (height l)) _ _ P (λ e. bytes_rotate_right l r) (λ e. cond_both (ltb (height l + 1) (height r)) _ _ P (λ e. bytes_rotate_left l r) (λ e. refl))

-- a part of a rope whose height is h or one more
pub record Fits (t : Rope) (h : ℕ) : Type 0 where
  pub inner : Inner t
  pub low : h ≤ height t
  pub high : height t ≤ h + 1

pub inner_some : (t : Rope) → Inner t → 1 ≤ height t
inner_some empty i = absurd i
inner_some (leaf b) i = omega arith
inner_some (node l r) i = omega arith

pub rotate_double_fits : (a b r : Rope) → Inner a → Inner b → Inner r → height b ≡ height r + 1 → height a ≡ height r → Fits (rotate_double a b r) (height b + 1)
unfolding rotate_double
rotate_double_fits a empty r ia ib ir hb ha = absurd ib
rotate_double_fits a (leaf b) r ia ib ir hb ha = absurd (omega (arith, inner_some r ir))
rotate_double_fits a (node c d) r ia ib ir hb ha =
    record { inner = ((ia, ib.0, omega arith, omega arith), (ib.1, ir, omega arith, omega arith), omega arith, omega arith); low = omega arith; high = omega arith }

pub rotate_right_fits : (l r : Rope) → Inner l → Inner r → height l ≡ height r + 2 → Fits (rotate_right l r) (height l)
unfolding rotate_right
rotate_right_fits empty r il ir h = absurd il
rotate_right_fits (leaf b) r il ir h = absurd (omega arith)
rotate_right_fits (node a b) r il ir h =
    cond_both (leb (height b) (height a)) _ _ (λ z. Fits z (height (node a b)))
    (λ e. let k : height b ≤ height a = leb-true _ _ e in
    record { inner = (il.0, (il.1, ir, omega arith, omega arith), omega arith, omega arith); low = omega arith; high = omega arith })
    (λ e. let k : height a < height b = leb-false _ _ e in
    let eq : height (node a b) ≡ height b + 1 = omega arith in
    subst (Fits (rotate_double a b r)) (sym eq) (rotate_double_fits a b r il.0 il.1 ir (omega arith) (omega arith)))

pub rotate_left_fits : (l r : Rope) → Inner l → Inner r → height r ≡ height l + 2 → Fits (rotate_left l r) (height r)
unfolding rotate_left
rotate_left_fits l empty il ir h = absurd ir
rotate_left_fits l (leaf b) il ir h = absurd (omega arith)
rotate_left_fits l (node a b) il ir h =
    cond_both (leb (height a) (height b)) _ _ (λ z. Fits z (height (node a b)))
    (λ e. let k : height a ≤ height b = leb-true _ _ e in
    record { inner = ((il, ir.0, omega arith, omega arith), ir.1, omega arith, omega arith); low = omega arith; high = omega arith })
    (λ e. let k : height b < height a = leb-false _ _ e in
    let eq : height (node a b) ≡ height a + 1 = omega arith in
    subst (Fits (rotate_double l a b)) (sym eq) (rotate_double_fits l a b il ir.0 ir.1 (omega arith) (omega arith)))

pub balance_fits : (l r : Rope) → Inner l → Inner r → height l ≤ height r + 2 → height r ≤ height l + 2 → Fits (balance l r) (max (height l) (height r))
unfolding balance
balance_fits l r il ir hl hr =
    let P : Rope → Type 0 = λ z. Fits z (max (height l) (height r)) in
    cond_both (ltb (height r + 1) (height l)) _ _ P
    (λ e. let k : height r + 1 < height l = ltb-true _ _ e in
    let eq : max (height l) (height r) ≡ height l = omega arith in
    subst (Fits (rotate_right l r)) (sym eq) (rotate_right_fits l r il ir (omega arith)))
    (λ e. let k : height l ≤ height r + 1 = ltb-false _ _ e in
    cond_both (ltb (height l + 1) (height r)) _ _ P
    (λ f. let j : height l + 1 < height r = ltb-true _ _ f in
    let eq : max (height l) (height r) ≡ height r = omega arith in
    subst (Fits (rotate_left l r)) (sym eq) (rotate_left_fits l r il ir (omega arith)))
    (λ f. let j : height r ≤ height l + 1 = ltb-false _ _ f in
    record { inner = (il, ir, k, j); low = omega arith; high = omega arith }))

-- two parts whose heights differ by one at most are not rotated
pub balance_level : (l r : Rope) → height l ≤ height r + 1 → height r ≤ height l + 1 → height (balance l r) ≡ max (height l) (height r) + 1
unfolding balance
balance_level l r hl hr =
    let P : Rope → Type 0 = λ z. height z ≡ max (height l) (height r) + 1 in
    cond_both (ltb (height r + 1) (height l)) _ _ P
    (λ e. absurd (omega (arith, ltb-true _ _ e)))
    (λ e. cond_both (ltb (height l + 1) (height r)) _ _ P (λ f. absurd (omega (arith, ltb-true _ _ f))) (λ f. refl))

-- one child of a node became higher by one at most
pub grown_right : (a b b' : Rope) → Inner (node a b) → Fits b' (height b) → Fits (balance a b') (height (node a b))
grown_right a b b' il rest =
    let k1 = rest.low in
    let k2 = rest.high in
    let all = balance_fits a b' il.0 rest.inner (omega arith) (omega arith) in
    record {
      inner = all.inner;
      low = ⊎_elim (λ (q : height b' < height a + 2). omega (arith, balance_level a b' (omega arith) (omega arith))) (λ (q : height a + 2 ≤ height b'). omega (arith, all.low)) (cases_lt (height b') (height a + 2));
      high = ⊎_elim (λ (q : height b' < height a + 2). omega (arith, balance_level a b' (omega arith) (omega arith))) (λ (q : height a + 2 ≤ height b'). omega (arith, all.high)) (cases_lt (height b') (height a + 2));
    }

pub grown_left : (a a' b : Rope) → Inner (node a b) → Fits a' (height a) → Fits (balance a' b) (height (node a b))
grown_left a a' b il rest =
    let k1 = rest.low in
    let k2 = rest.high in
    let all = balance_fits a' b rest.inner il.1 (omega arith) (omega arith) in
    record {
      inner = all.inner;
      low = ⊎_elim (λ (q : height a' < height b + 2). omega (arith, balance_level a' b (omega arith) (omega arith))) (λ (q : height b + 2 ≤ height a'). omega (arith, all.low)) (cases_lt (height a') (height b + 2));
      high = ⊎_elim (λ (q : height a' < height b + 2). omega (arith, balance_level a' b (omega arith) (omega arith))) (λ (q : height b + 2 ≤ height a'). omega (arith, all.high)) (cases_lt (height a') (height b + 2));
    }
