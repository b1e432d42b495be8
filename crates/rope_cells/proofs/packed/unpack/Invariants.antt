use Rattle.std.proofs.Common.{◌≡◌, ℕ, ◌+◌, ◌*◌, ◌/◌, ◌%◌, ◌<◌, length, get_or}
use Rattle.ropes.specs.Layout.{byte_of}
use Rattle.rope_cells.proofs.packed.unpack.Given as goal

abbrev pub invariant-loop-k : goal.invariant-loop-k
invariant-loop-k l = (length l.bytes ≡ 48) × ((j : ℕ) → j < 4 * l.k → get_or l.bytes j 0 ≡ byte_of (get_or l.words (1 + j / 4) 0) (j % 4))
