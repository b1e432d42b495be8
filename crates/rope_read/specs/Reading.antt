-- What the readers of a rope find.
use Rattle.std.specs.Prelude.{◌≡◌, ℕ, ◌<◌, ◌≤◌, List, length, take}

-- r is the least place of a text whose prefix sums to n
pub record Reached (sums : List ℕ → ℕ) (t : List ℕ) (n r : ℕ) : Type 0 where
  pub within : r ≤ length t
  pub reaches : sums (take r t) ≡ n
  pub least : (q : ℕ) → q < r → sums (take q t) < n
