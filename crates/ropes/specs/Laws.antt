-- What holds of ropes.
use Rattle.std.specs.Prelude.{◌≡◌, ℕ, ◌+◌, ◌/◌, ◌^◌, ◌<◌, ◌≤◌, max, List, ◌++◌, length, take, drop}
use Rattle.spec.specs.Text.{part, replaced, copies}
use Rattle.ropes.specs.Rope.{Rope, bytes, size, height, cells, Octets, Whole}
use Rattle.ropes.specs.Join.{concat}
use Rattle.ropes.specs.Cut.{front, back, slice, replace, repeat_onto}
use Rattle.ropes.specs.Build.{from_bytes}

-- two ropes as one
pub record ConcatLaws : Type 0 where
  pub concat_bytes : (l r : Rope) → bytes (concat l r) ≡ bytes l ++ bytes r
  pub concat_whole : (l r : Rope) → Whole l → Whole r → Whole (concat l r)
  pub concat_low : (l r : Rope) → Whole l → Whole r → max (height l) (height r) ≤ height (concat l r)
  pub concat_high : (l r : Rope) → Whole l → Whole r → height (concat l r) ≤ max (height l) (height r) + 1

-- parts of a rope
pub record CutLaws : Type 0 where
  pub front_bytes : (t : Rope) (i : ℕ) → bytes (front t i) ≡ take i (bytes t)
  pub back_bytes : (t : Rope) (i : ℕ) → bytes (back t i) ≡ drop i (bytes t)
  pub front_whole : (t : Rope) (i : ℕ) → Whole t → Whole (front t i)
  pub back_whole : (t : Rope) (i : ℕ) → Whole t → Whole (back t i)
  pub slice_bytes : (t : Rope) (a b : ℕ) → bytes (slice t a b) ≡ part (bytes t) a b
  pub slice_whole : (t : Rope) (a b : ℕ) → Whole t → Whole (slice t a b)

-- what is made of ropes and of bytes
pub record EditLaws : Type 0 where
  pub replace_bytes : (t : Rope) (a b : ℕ) (new : Rope) → a ≤ b → bytes (replace t a b new) ≡ replaced (bytes t) a b (bytes new)
  pub replace_whole : (t : Rope) (a b : ℕ) (new : Rope) → Whole t → Whole new → Whole (replace t a b new)
  pub repeat_bytes : (steps : ℕ) (before t : Rope) (n : ℕ) → n < 2 ^ steps → bytes (repeat_onto steps before t n) ≡ bytes before ++ copies n (bytes t)
  pub repeat_whole : (steps : ℕ) (before t : Rope) (n : ℕ) → Whole before → Whole t → Whole (repeat_onto steps before t n)
  pub from_bytes_bytes : (xs : List ℕ) → bytes (from_bytes xs) ≡ xs
  pub from_bytes_whole : (xs : List ℕ) → Octets xs → length xs < 2 ^ 29 → Whole (from_bytes xs)

-- a rope of fewer than 2 ^ 29 bytes is lower than 36
abbrev pub Low : Type 0
Low = (t : Rope) → Whole t → size t < 2 ^ 29 → height t < 36

-- a rope of n bytes has at most 1 + n / 12 cells
abbrev pub FewCells : Type 0
FewCells = (t : Rope) → Whole t → cells t ≤ 1 + size t / 12
