-- A rope is a sequence of bytes as a tree: bytes stand in its leaves alone. Height and size are functions of the value.
use Rattle.std.specs.Prelude.{ℕ, ◌+◌, ◌<◌, ◌≤◌, max, Bool, true, false, List, [], ◌∷◌, ◌++◌, length, nat_lt}

pub data Rope : Type 0 where
  empty : Rope
  leaf : List ℕ → Rope
  node : Rope → Rope → Rope

-- how many bytes a leaf has at least, beside other leaves, and at most
abbrev pub leaf_min : ℕ
leaf_min = 24

abbrev pub leaf_max : ℕ
leaf_max = 48

abbrev pub bytes : Rope → List ℕ
bytes empty = []
bytes (leaf b) = b
bytes (node l r) = bytes l ++ bytes r

abbrev pub size : Rope → ℕ
size empty = 0
size (leaf b) = length b
size (node l r) = size l + size r

abbrev pub height : Rope → ℕ
height empty = 0
height (leaf b) = 1
height (node l r) = max (height l) (height r) + 1

-- each is a byte
unfoldable pub Octets : List ℕ → Type 0
Octets [] = Unit {0}
Octets (x ∷ xs) = (x < 256) × Octets xs

-- a part of a rope of more than one leaf
abbrev pub Inner : Rope → Type 0
Inner empty = ⊥
Inner (leaf b) = (leaf_min ≤ length b) × (length b ≤ leaf_max) × Octets b
Inner (node l r) = Inner l × Inner r × (height l ≤ height r + 1) × (height r ≤ height l + 1)

-- a rope in balance, whose leaves are filled
abbrev pub Whole : Rope → Type 0
Whole empty = Unit {0}
Whole (leaf b) = (1 ≤ length b) × (length b ≤ leaf_max) × Octets b
Whole (node l r) = Inner (node l r)

-- whether it has too few bytes to stand beside other leaves
abbrev pub is_small : Rope → Bool
is_small empty = true
is_small (leaf b) = nat_lt (length b) leaf_min
is_small (node l r) = false

abbrev pub leaves : Rope → ℕ
leaves empty = 0
leaves (leaf b) = 1
leaves (node l r) = leaves l + leaves r

-- how many leaves and nodes
abbrev pub cells : Rope → ℕ
cells empty = 0
cells (leaf b) = 1
cells (node l r) = cells l + cells r + 1
