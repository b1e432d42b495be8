-- The bounds of a row, of its parts.
use Rattle.std.proofs.Common.{ℕ, ◌<◌, ◌≤◌, List, length, arith}
use Rattle.words.specs.Padded.{padded}
use Rattle.words.specs.Counted.{WithinBounds}
use Rattle.words.proofs.Padding.{padded_length}

pub within_bounds : (xs : List ℕ) (n room touches : ℕ) → length xs ≤ n → n ≤ room → room < 9223372036854775808 → touches ≤ 9223372036854775807 → WithinBounds (record { row = padded xs n; touched = touches; reserved = room })
within_bounds xs n room touches short fits small few = record { room = omega (arith, padded_length xs n short); small = small; counted = few }
