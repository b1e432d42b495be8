-- Where lines end.
use Rattle.std.specs.Prelude.{◌≢◌, ℕ, ◌<◌, ◌≤◌, List, slice_index}

-- no line ends from one place up to another
abbrev pub IsWithinLine : List ℕ → ℕ → ℕ → Type 0
IsWithinLine text from to = (k : ℕ) → from ≤ k → k < to → slice_index text k ≢ 10
