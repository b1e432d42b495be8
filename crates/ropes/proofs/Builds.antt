-- A rope that is built has the bytes that it was built of, and is in balance.
use Rattle.std.proofs.Common.{◌≡◌, ℕ, zero, suc, ◌+◌, ◌-◌, ◌*◌, ◌/◌, ◌^◌, ◌<◌, ◌≤◌, cond, eqb, ltb, leb, List, [], ◌∷◌, ◌++◌, length, take, drop, sym, refl, ap, ◌∙◌, subst, ⊎_elim, pow-suc, arith, length-drop, length-take}
use Rattle.std.proofs.lemmas.Bool.{eqb-true, eqb-false, leb-true, leb-false, le-leb, ltb-true, ltb-false, cond_both, cond-true, cases_lt}
use Rattle.std.proofs.lemmas.List.{take-append-drop}
use Rattle.ropes.specs.Rope.{Rope, leaf, node, leaf_min, leaf_max, bytes, height, Octets, Inner, Whole}
use Rattle.ropes.specs.Build.{left_share, build, from_bytes}
use Rattle.ropes.proofs.Bytes.{octets_take, octets_drop}
use Rattle.ropes.proofs.Joins.{inner_whole}

pub bytes_build : (f : ℕ) (xs : List ℕ) → bytes (build f xs) ≡ xs
unfolding build
bytes_build zero xs = refl
bytes_build (suc f) xs =
    let n = left_share (length xs) in
    cond_both (leb (length xs) leaf_max) _ _ (λ z. bytes z ≡ xs) (λ _. refl)
    (λ _. ap (λ z. z ++ bytes (build f (drop n xs))) (bytes_build f (take n xs)) ∙ (ap (λ z. take n xs ++ z) (bytes_build f (drop n xs)) ∙ take-append-drop n xs))

-- how many leaves n bytes fill
abbrev fills : ℕ → ℕ
fills n = (n + 47) / 48

-- what a share of more than a leaf's bytes is
record Share (n k : ℕ) : Type 0 where
  pub some : leaf_min ≤ k
  pub rest : leaf_min + k ≤ n
  pub left : fills k ≡ fills n / 2
  pub right : fills (n - k) ≡ fills n - fills n / 2

share_ok : (n : ℕ) → leaf_max < n → Share n (left_share n)
unfolding left_share
share_ok n h =
    cond_both (ltb n 72) _ _ (Share n)
    (λ e. let k : n < 72 = ltb-true _ _ e in
    let all : fills n ≡ 2 = omega arith in
    let one : fills (n / 2) ≡ 1 = omega arith in
    let other : fills (n - n / 2) ≡ 1 = omega arith in
    record { some = omega arith; rest = omega arith; left = omega (arith, all, one); right = omega (arith, all, other) })
    (λ e. let k : 72 ≤ n = ltb-false _ _ e in record { some = omega arith; rest = omega arith; left = omega arith; right = omega arith })

-- how high a rope of k full leaves is built
depth : ℕ → ℕ → ℕ
depth zero k = 1
depth (suc f) k = cond (leb k 1) 1 (depth f (k - k / 2) + 1)

depth_one : (f k : ℕ) → k ≤ 1 → depth f k ≡ 1
unfolding depth
depth_one zero k h = refl
depth_one (suc f) k h = cond_both (leb k 1) _ _ (λ z. z ≡ 1) (λ _. refl) (λ e. absurd (omega (arith, leb-false _ _ e)))

depth_more : (f k : ℕ) → 1 < k → depth (suc f) k ≡ depth f (k - k / 2) + 1
unfolding depth
depth_more f k h = cond_both (leb k 1) _ _ (λ z. z ≡ depth f (k - k / 2) + 1) (λ e. absurd (omega (arith, leb-true _ _ e))) (λ _. refl)

depth_some : (f k : ℕ) → 1 ≤ depth f k
unfolding depth
depth_some zero k = omega arith
depth_some (suc f) k = cond_both (leb k 1) _ _ (λ z. 1 ≤ z) (λ _. omega arith) (λ _. omega arith)

-- one leaf more makes it higher by one at most, and never lower
record Close (f j k : ℕ) : Type 0 where
  pub low : depth f j ≤ depth f k
  pub high : depth f k ≤ depth f j + 1

close : (f j k : ℕ) → 1 ≤ j → j ≤ k → k ≤ j + 1 → Close f j k
unfolding depth
close zero j k some le near = record { low = omega arith; high = omega arith }
close (suc f) j k some le near =
    let a = j - j / 2 in
    let b = k - k / 2 in
    let c = close f a b (omega arith) (omega arith) (omega arith) in
    ⊎_elim
    (λ (q : j < 2).
    ⊎_elim
    (λ (p : k < 2). let x = depth_one (suc f) j (omega arith) in let y = depth_one (suc f) k (omega arith) in record { low = omega (arith, x, y); high = omega (arith, x, y) })
    (λ (p : 2 ≤ k).
    let x = depth_one (suc f) j (omega arith) in
    let y = depth_more f k p in
    let z = depth_one f b (omega arith) in
    record { low = omega (arith, x, y, z); high = omega (arith, x, y, z) })
    (cases_lt k 2))
    (λ (q : 2 ≤ j).
    let x = depth_more f j q in
    let y = depth_more f k (omega arith) in
    record { low = omega (arith, x, y, c.low); high = omega (arith, x, y, c.high) })
    (cases_lt j 2)

record Built (f : ℕ) (xs : List ℕ) : Type 0 where
  pub inner : Inner (build f xs)
  pub high : height (build f xs) ≡ depth f (fills (length xs))

-- the two halves, as children of a node
halves : (f n k : ℕ) (l r : Rope) → leaf_max < n → Share n k → Inner l → Inner r → height l ≡ depth f (fills k) → height r ≡ depth f (fills (n - k))
    → Inner (node l r) × (height (node l r) ≡ depth (suc f) (fills n))
halves f n k l r more s il ir hl hr =
    let c = close f (fills k) (fills (n - k)) (omega (arith, s.some)) (omega (arith, s.left, s.right)) (omega (arith, s.left, s.right)) in
    let d = depth_more f (fills n) (omega arith) in
    let e : depth f (fills (n - k)) ≡ depth f (fills n - fills n / 2) = ap (depth f) s.right in
    ((il, ir, omega (arith, c.low), omega (arith, c.high)), omega (arith, c.low, d, e))

build_ok : (f : ℕ) (xs : List ℕ) → Octets xs → leaf_min ≤ length xs → fills (length xs) ≤ 2 ^ f → Built f xs
unfolding build
build_ok zero xs o some fits = record { inner = (some, omega arith, o); high = sym (depth_one 0 (fills (length xs)) (omega arith)) }
build_ok (suc f) xs o some fits =
    let n = length xs in
    let k = left_share n in
    let P : Rope → Type 0 = λ z. Inner z × (height z ≡ depth (suc f) (fills n)) in
    let all : P (cond (leb n leaf_max) (leaf xs) (node (build f (take k xs)) (build f (drop k xs)))) = cond_both (leb n leaf_max) _ _ P
    (λ e. let h : n ≤ leaf_max = leb-true _ _ e in ((some, h, o), sym (depth_one (suc f) (fills n) (omega arith))))
    (λ e. let h : leaf_max < n = leb-false _ _ e in
    let s = share_ok n h in
    let p : 2 ^ suc f ≡ 2 ^ f * 2 = pow-suc 2 f in
    let lt : length (take k xs) ≡ k = omega (arith, length-take k xs, s.rest) in
    let ld : length (drop k xs) ≡ n - k = length-drop k xs in
    let a = build_ok f (take k xs) (octets_take k xs o) (omega (arith, s.some)) (omega (arith, s.left)) in
    let b = build_ok f (drop k xs) (octets_drop k xs o) (omega (arith, s.rest)) (omega (arith, s.right)) in
    halves f n k (build f (take k xs)) (build f (drop k xs)) h s a.inner b.inner
    (a.high ∙ ap (λ z. depth f (fills z)) lt) (b.high ∙ ap (λ z. depth f (fills z)) ld)) in
    record { inner = all.0; high = all.1 }

pub build_leaf : (f : ℕ) (xs : List ℕ) → length xs ≤ leaf_max → build f xs ≡ leaf xs
unfolding build
build_leaf zero xs h = refl
build_leaf (suc f) xs h = cond-true _ _ _ (le-leb _ _ h)

pub bytes_from_bytes : (xs : List ℕ) → bytes (from_bytes xs) ≡ xs
unfolding from_bytes
bytes_from_bytes [] = refl
bytes_from_bytes (x ∷ xs) = cond_both (eqb (length (x ∷ xs)) 0) _ _ (λ z. bytes z ≡ x ∷ xs) (λ e. absurd (let k : length (x ∷ xs) ≡ 0 = eqb-true _ _ e in omega arith)) (λ _. bytes_build 24 (x ∷ xs))

build_whole : (f : ℕ) (xs : List ℕ) → Octets xs → 1 ≤ length xs → fills (length xs) ≤ 2 ^ f → Whole (build f xs)
build_whole f xs o some fits =
    ⊎_elim
    (λ (q : length xs < leaf_min). subst Whole (sym (build_leaf f xs (omega arith))) (some, omega arith, o))
    (λ (q : leaf_min ≤ length xs). inner_whole (build f xs) (build_ok f xs o q fits).inner)
    (cases_lt (length xs) leaf_min)

pub from_bytes_whole : (xs : List ℕ) → Octets xs → length xs < 2 ^ 29 → Whole (from_bytes xs)
unfolding from_bytes
from_bytes_whole xs o h =
    cond_both (eqb (length xs) 0) _ _ Whole (λ _. tt)
    (λ e. let some : length xs ≡ 0 → ⊥ = eqb-false _ _ e in build_whole 24 xs o (omega arith) (omega arith))
