-- What a writer writes into.
use Rattle.std.specs.Prelude.{ℕ, ◌+◌, ◌≤◌, List, length}

-- the ghost name of the bytes lent, and how many they are
pub record Lent : Type 0 where
  pub lender : ℕ
  pub capacity : ℕ

-- room for so many more bytes behind what was written
abbrev pub HasRoom : (written : List ℕ) → Lent → ℕ → Type 0
HasRoom written lent n = length written + n ≤ lent.capacity
