-- When the counts and the dead list of a heap are right.
use Rattle.std.specs.Prelude.{◌≡◌, ℕ, zero, suc, ◌+◌, ◌*◌, ◌<◌, ◌≤◌, cond, List, [], ◌∷◌, length, ◌==◌}
use Rattle.cells.specs.Layout.{at, taken, first_dead}

-- 1 if a is p, else 0
unfoldable pub hit : ℕ → ℕ → ℕ
hit a p = cond (a == p) 1 0

-- how often p stands in a list
abbrev pub occ : ℕ → List ℕ → ℕ
occ p [] = 0
occ p (x ∷ xs) = hit x p + occ p xs

-- how many of the n cells from 8 on have p in word k
unfoldable pub ins : List ℕ → ℕ → ℕ → ℕ → ℕ
ins m k p zero = 0
ins m k p (suc n) = ins m k p n + hit (at m (8 + n) k) p

-- the dead cells from a on, each with the next one in word 3
abbrev pub Chain : List ℕ → ℕ → List ℕ → Type 0
Chain m a [] = a ≡ 0
Chain m a (d ∷ ds) = (a ≡ d) × Chain m (at m d 3) ds

-- p is none or one of n cells
abbrev pub Known : ℕ → ℕ → Type 0
Known n p = 1 ≤ p → (8 ≤ p) × (p < 8 + n)

-- n cells, and each count is how often the cell is held from outside and named by cells
pub record Counted (m held : List ℕ) (n : ℕ) : Type 0 where
  pub top : taken m ≡ 8 + n
  pub few : n ≤ 268435448
  pub fits : 16 * n + 128 ≤ length m
  pub holds : (p : ℕ) → 0 < occ p held → Known n p
  pub left : (q : ℕ) → 8 ≤ q → q < 8 + n → Known n (at m q 1)
  pub right : (q : ℕ) → 8 ≤ q → q < 8 + n → Known n (at m q 2)
  pub counts : (p : ℕ) → 8 ≤ p → p < 8 + n → at m p 0 ≡ occ p held + (ins m 1 p n + ins m 2 p n)

-- the dead list has each cell with the count 0, once, and no other
pub record DeadList (m : List ℕ) (n : ℕ) (dead : List ℕ) : Type 0 where
  pub deads : (p : ℕ) → 8 ≤ p → p < 8 + n → occ p dead ≡ hit (at m p 0) 0
  pub inside : (p : ℕ) → 0 < occ p dead → (8 ≤ p) × (p < 8 + n)
  pub chain : Chain m (first_dead m) dead

-- no cell is below itself: a child's rank is less than its parent's
pub record Ranked (m : List ℕ) (n : ℕ) : Type 0 where
  pub rank : ℕ → ℕ
  pub left : (q : ℕ) → 8 ≤ q → q < 8 + n → 1 ≤ at m q 1 → rank (at m q 1) < rank q
  pub right : (q : ℕ) → 8 ≤ q → q < 8 + n → 1 ≤ at m q 2 → rank (at m q 2) < rank q

-- the heap is sound, with these references held from outside
pub record Sound (m held : List ℕ) : Type 0 where
  pub cells : ℕ
  pub dead : List ℕ
  pub counted : Counted m held cells
  pub listed : DeadList m cells dead
  pub ranked : Ranked m cells
