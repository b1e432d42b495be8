-- How high a rope is at most, and how many cells it has at most, by its bytes.
use Rattle.std.proofs.Common.{◌≡◌, ℕ, zero, suc, ◌+◌, ◌*◌, ◌/◌, ◌^◌, ◌<◌, ◌≤◌, refl, ⊎_elim, arith}
use Rattle.std.proofs.lemmas.Bool.{cases_lt}
use Rattle.ropes.specs.Rope.{Rope, empty, leaf, node, leaf_min, size, height, leaves, cells, Inner, Whole}
use Rattle.ropes.proofs.Balance.{inner_some}

-- the n-th number of the sequence that begins with a and b, each the sum of the two before it
fib : ℕ → ℕ → ℕ → ℕ
fib a b zero = a
fib a b (suc n) = fib b (a + b) n

fib_step : (a b n : ℕ) → fib a b (suc (suc n)) ≡ fib a b n + fib a b (suc n)
unfolding fib
fib_step a b zero = refl
fib_step a b (suc n) = fib_step b (a + b) n

fib_grows : (a b n : ℕ) → a ≤ b → fib a b n ≤ fib a b (suc n)
unfolding fib
fib_grows a b zero h = h
fib_grows a b (suc n) h = fib_grows b (a + b) n (omega arith)

fib_mono : (m n : ℕ) → m ≤ n → fib 1 1 m ≤ fib 1 1 n
fib_mono m zero h = let e : m ≡ 0 = omega arith in rw e (omega arith)
fib_mono m (suc n) h =
    ⊎_elim (λ (q : m < suc n). omega (arith, fib_mono m n (omega arith), fib_grows 1 1 n (omega arith)))
    (λ (q : suc n ≤ m). let e : m ≡ suc n = omega arith in rw e (omega arith)) (cases_lt m (suc n))

fib_one : fib 1 1 1 ≤ 1
unfolding fib
fib_one = omega arith

fib_36 : fib 1 1 36 ≡ 24157817
unfolding fib
fib_36 = refl

-- of the two children the lower one is one lower at most
fib_two : (x y h : ℕ) → 1 ≤ y → y ≤ x + 1 → h ≡ y + 1 → fib 1 1 h ≤ fib 1 1 x + fib 1 1 y
fib_two x zero h some le e = absurd (omega arith)
fib_two x (suc k) h some le e =
    let is : h ≡ suc (suc k) = omega arith in
    rw is (omega (arith, fib_step 1 1 k, fib_mono k x (omega arith)))

leaves_many : (t : Rope) → Inner t → fib 1 1 (height t) ≤ leaves t
leaves_many empty i = absurd i
leaves_many (leaf b) i = fib_one
leaves_many (node l r) i =
    let a = leaves_many l i.0 in
    let b = leaves_many r i.1 in
    ⊎_elim (λ (q : height l < height r). omega (arith, fib_two (height l) (height r) (height (node l r)) (omega arith) i.3 (omega arith)))
    (λ (q : height r ≤ height l). omega (arith, fib_two (height r) (height l) (height (node l r)) (inner_some l i.0) i.2 (omega arith)))
    (cases_lt (height l) (height r))

pub leaves_size : (t : Rope) → Inner t → leaf_min * leaves t ≤ size t
leaves_size empty i = absurd i
leaves_size (leaf b) i = omega (arith, i.0)
leaves_size (node l r) i = omega (arith, leaves_size l i.0, leaves_size r i.1)

pub height_low : (t : Rope) → Whole t → size t < 2 ^ 29 → height t < 36
height_low empty w h = omega arith
height_low (leaf b) w h = omega arith
height_low (node l r) w h =
    ⊎_elim (λ (q : height (node l r) < 36). q)
    (λ (q : 36 ≤ height (node l r)). absurd (omega (arith, fib_36, fib_mono 36 (height (node l r)) q, leaves_many (node l r) w, leaves_size (node l r) w)))
    (cases_lt (height (node l r)) 36)

cells_leaves : (t : Rope) → Inner t → cells t + 1 ≡ 2 * leaves t
cells_leaves empty i = absurd i
cells_leaves (leaf b) i = omega arith
cells_leaves (node l r) i = omega (arith, cells_leaves l i.0, cells_leaves r i.1)

pub cells_few : (t : Rope) → Whole t → cells t ≤ 1 + size t / 12
cells_few empty w = omega arith
cells_few (leaf b) w = omega arith
cells_few (node l r) w = omega (arith, cells_leaves (node l r) w, leaves_size (node l r) w)
