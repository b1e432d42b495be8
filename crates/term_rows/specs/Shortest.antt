-- Which update of a row is chosen.
use Rattle.std.specs.Prelude.{◌≡◌, ℕ, ◌+◌, ◌-◌, ◌≤◌, Bool, cond, length, drop, replicate, slice_index}
use Rattle.spec.specs.Screen.{Row, blank}
use Rattle.terminals.specs.Drawing.{Updates}

-- where an update's bytes end, the three of a clear counted
abbrev pub extent : ℕ → Bool → ℕ
extent b clear = b + cond clear 3 0

-- It begins where the rows first differ, and no run and no clear is shorter.
pub record Shortest (old new : Row) (a b : ℕ) (clear : Bool) : Type 0 where
  pub updates : Updates old new a b clear
  pub differs : slice_index old a ≡ slice_index new a → ⊥
  pub no_shorter_run : (k : ℕ) → drop k old ≡ drop k new → extent b clear ≤ k
  pub no_shorter_clear : (k : ℕ) → a ≤ k → drop k new ≡ replicate (length new - k) blank → extent b clear ≤ k + 3

-- the same of a row written over whatever stood there
pub record ShortestWhole (new : Row) (b : ℕ) (clear : Bool) : Type 0 where
  pub updates : (old : Row) → length old ≡ length new → Updates old new 0 b clear
  pub no_longer : extent b clear ≤ length new
  pub no_shorter_clear : (k : ℕ) → drop k new ≡ replicate (length new - k) blank → extent b clear ≤ k + 3
