-- Reading a range of a rope, and what it costs.
use Rattle.std.specs.Prelude.{◌≡◌, ℕ, ◌+◌, ◌*◌, ◌≤◌, cond, List, ◌==◌, nat_lt}
use Rattle.ropes.specs.Rope.{size, leaf_min}
use Rattle.rope_cells.specs.Lending.{Lends}

-- p refers to a rope of so many bytes, which may stand beside others
pub record Sized (m : List ℕ) (p n : ℕ) : Type 0 where
  pub lends : Lends m p
  pub long : size lends.rope ≡ n
  pub large : leaf_min ≤ n

-- a rope of 48 bytes is a leaf or has two: its cell is asked
unfoldable pub tag_price : ℕ → ℕ
tag_price n = cond (n == 48) 1 0

-- what the path to place a costs in a rope of so many levels and n bytes, where the range has an end there and the rope has none, at b
unfoldable pub path_price : ℕ → ℕ → ℕ → ℕ → ℕ
path_price levels n a b = cond (a == b) 0 (2 * levels + 15 + cond (nat_lt n 48) 0 1)

-- what is touched to read k bytes from place a on
unfoldable pub price : ℕ → ℕ → ℕ → ℕ → ℕ
price levels n a k = k + path_price levels n a 0 + path_price levels n (a + k) n
