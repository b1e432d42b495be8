-- A rope of given bytes: full leaves, but for the last two, in balance.
use Rattle.std.specs.Prelude.{ℕ, zero, suc, ◌+◌, ◌*◌, ◌/◌, cond, List, length, take, drop, ◌==◌, nat_le, nat_lt}
use Rattle.ropes.specs.Rope.{Rope, empty, leaf, node, leaf_max}

-- how many of n bytes, too many for a leaf, go to the left: half of the leaves, full ones, unless too few were left for the last
unfoldable pub left_share : ℕ → ℕ
left_share n = cond (nat_lt n 72) (n / 2) (48 * ((n + 47) / 96))

unfoldable pub build : ℕ → List ℕ → Rope
build zero xs = leaf xs
build (suc levels) xs =
    cond (nat_le (length xs) leaf_max) (leaf xs)
    (node (build levels (take (left_share (length xs)) xs)) (build levels (drop (left_share (length xs)) xs)))

-- 24 levels are enough for 2 ^ 29 bytes
unfoldable pub from_bytes : List ℕ → Rope
from_bytes xs = cond (length xs == 0) empty (build 24 xs)
