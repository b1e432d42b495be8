-- What looking for the next byte of a kind in a line tells of looking for the n-th.
use Rattle.std.specs.Prelude.{◌≡◌, ℕ, suc, ◌<◌, cond, length, ◌==◌}
use Rattle.std.proofs.Math.Option.{Option, some, none}
use Rattle.spec.specs.Text.{Text, line_end}
use Rattle.spec.specs.Motions.{find_in_line}

-- n bytes c are looked for behind a place; if none, the place is found
abbrev pub found_from : ℕ → ℕ → Text → ℕ → Option ℕ
found_from c n t a = cond (n == 0) (some a) (find_in_line c n t a)

-- there is no byte c behind the place in its line
pub record FoundNone (c : ℕ) (t : Text) (a : ℕ) : Type 0 where
  pub found : (n : ℕ) → find_in_line c (suc n) t a ≡ none

-- b is the first
pub record FoundAt (c : ℕ) (t : Text) (a b : ℕ) : Type 0 where
  pub ahead : a < b
  pub inside : b < length t
  pub same_line : line_end t b ≡ line_end t a
  pub found : (n : ℕ) → find_in_line c (suc n) t a ≡ found_from c n t b
