-- A list with zeros behind it.
use Rattle.std.specs.Prelude.{ℕ, ◌-◌, List, ◌++◌, length, replicate}

unfoldable pub zeros : ℕ → List ℕ
zeros n = replicate n 0

-- up to the length n
abbrev pub padded : List ℕ → ℕ → List ℕ
padded xs n = xs ++ zeros (n - length xs)
