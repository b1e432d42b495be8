-- A row of words, how often it was touched, and for how many words memory is reserved.
use Rattle.std.specs.Prelude.{ℕ, ◌+◌, ◌<◌, ◌≤◌, min, List, length}

pub record Counted : Type 0 where
  pub row : List ℕ
  pub touched : ℕ
  pub reserved : ℕ

-- The memory of every word is reserved, and neither that nor the count of touches can pass its end.
pub record WithinBounds (c : Counted) : Type 0 where
  pub room : length c.row ≤ c.reserved
  pub small : c.reserved < 9223372036854775808
  pub counted : c.touched ≤ 9223372036854775807

-- one touch more, up to where the count stops
abbrev pub touched_once : ℕ → ℕ
touched_once n = min 9223372036854775807 (n + 1)
