-- Two ropes as one, in balance: the lower one goes down the inner edge of the higher one to where it fits, and on the way up nodes are rotated.
use Rattle.std.specs.Prelude.{ℕ, ◌+◌, ◌/◌, Bool, cond, not, ◌&&◌, List, ◌++◌, length, take, drop, nat_le, nat_lt}
use Rattle.ropes.specs.Rope.{Rope, empty, leaf, node, leaf_min, leaf_max, height, is_small}

-- a, b and c, where b is the highest
unfoldable pub rotate_double : Rope → Rope → Rope → Rope
rotate_double a empty c = node (node a empty) c
rotate_double a (leaf b) c = node (node a (leaf b)) c
rotate_double a (node x y) c = node (node a x) (node y c)

-- the left one is too high
unfoldable pub rotate_right : Rope → Rope → Rope
rotate_right empty r = node empty r
rotate_right (leaf b) r = node (leaf b) r
rotate_right (node a b) r = cond (nat_le (height b) (height a)) (node a (node b r)) (rotate_double a b r)

-- the right one is too high
unfoldable pub rotate_left : Rope → Rope → Rope
rotate_left l empty = node l empty
rotate_left l (leaf b) = node l (leaf b)
rotate_left l (node a b) = cond (nat_le (height a) (height b)) (node (node l a) b) (rotate_double l a b)

-- a node of two parts whose heights differ by two at most
unfoldable pub balance : Rope → Rope → Rope
balance l r = cond (nat_lt (height r + 1) (height l)) (rotate_right l r) (cond (nat_lt (height l + 1) (height r)) (rotate_left l r) (node l r))

-- two leaves as one where they fit in one, else as two
unfoldable pub pair : List ℕ → List ℕ → Rope
pair a b =
    cond (nat_le (length a + length b) leaf_max) (leaf (a ++ b))
    (cond (nat_le leaf_min (length a) && nat_le leaf_min (length b)) (node (leaf a) (leaf b))
    (node (leaf (take ((length a + length b) / 2) (a ++ b))) (leaf (drop ((length a + length b) / 2) (a ++ b)))))

-- two leaves; of anything else, a node
unfoldable pub merge : Rope → Rope → Rope
merge empty r = r
merge (leaf a) empty = leaf a
merge (leaf a) (leaf b) = pair a b
merge (leaf a) (node c d) = node (leaf a) (node c d)
merge (node a b) empty = node a b
merge (node a b) (leaf c) = node (node a b) (leaf c)
merge (node a b) (node c d) = node (node a b) (node c d)

-- whether a rope of height h and the rope t, which is not higher, may be the children of a node
abbrev pub fits_beside : ℕ → Rope → Bool
fits_beside h t = nat_le h (height t + 1) && not (is_small t)

-- r, which is not higher, behind l
unfoldable pub append : Rope → Rope → Rope
append empty r = r
append (leaf a) r = merge (leaf a) r
append (node a b) r = cond (fits_beside (height (node a b)) r) (node (node a b) r) (balance a (append b r))

-- l, which is not higher, before r
unfoldable pub prepend : Rope → Rope → Rope
prepend l empty = l
prepend l (leaf b) = merge l (leaf b)
prepend l (node a b) = cond (fits_beside (height (node a b)) l) (node l (node a b)) (balance (prepend l a) b)

unfoldable pub join : Rope → Rope → Rope
join l r = cond (nat_le (height r) (height l)) (append l r) (prepend l r)

unfoldable pub concat : Rope → Rope → Rope
concat empty r = r
concat (leaf a) empty = leaf a
concat (leaf a) (leaf b) = join (leaf a) (leaf b)
concat (leaf a) (node c d) = join (leaf a) (node c d)
concat (node a b) empty = node a b
concat (node a b) (leaf c) = join (node a b) (leaf c)
concat (node a b) (node c d) = join (node a b) (node c d)
