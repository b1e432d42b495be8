-- Parts of ropes, and what is made of parts.
use Rattle.std.specs.Prelude.{ℕ, zero, suc, ◌+◌, ◌-◌, ◌/◌, ◌%◌, cond, List, [], ◌∷◌, take, drop, ◌==◌, nat_le, nat_lt}
use Rattle.ropes.specs.Rope.{Rope, empty, leaf, node, size}
use Rattle.ropes.specs.Join.{concat}

-- a rope of at most one leaf
unfoldable pub piece : List ℕ → Rope
piece [] = empty
piece (x ∷ xs) = leaf (x ∷ xs)

-- the rope before place i, and from it on
unfoldable pub front : Rope → ℕ → Rope
front empty i = empty
front (leaf b) i = piece (take i b)
front (node l r) i =
    cond (i == 0) empty
    (cond (nat_le (size l + size r) i) (node l r)
    (cond (nat_lt i (size l)) (front l i) (concat l (front r (i - size l)))))

unfoldable pub back : Rope → ℕ → Rope
back empty i = empty
back (leaf b) i = piece (drop i b)
back (node l r) i =
    cond (i == 0) (node l r)
    (cond (nat_le (size l + size r) i) empty
    (cond (nat_lt i (size l)) (concat (back l i) r) (back r (i - size l))))

-- the bytes from place a up to place b
unfoldable pub slice : Rope → ℕ → ℕ → Rope
slice t a b = back (front t b) a

-- the rope with these bytes replaced
unfoldable pub replace : Rope → ℕ → ℕ → Rope → Rope
replace t a b new = concat (concat (front (front t b) a) new) (back t b)

-- the rope n times behind another, by doubling; n is below 2 to the number of steps
unfoldable pub repeat_onto : ℕ → Rope → Rope → ℕ → Rope
repeat_onto zero before t n = before
repeat_onto (suc steps) before t n =
    cond (n == 0) before
    (cond (n / 2 == 0) (concat before t)
    (repeat_onto steps (cond (n % 2 == 0) before (concat before t)) (concat t t) (n / 2)))
