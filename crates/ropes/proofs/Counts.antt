-- A concat and a cut make one cell more than they take, at most.
use Rattle.std.proofs.Common.{◌≡◌, ℕ, ◌+◌, ◌-◌, ◌≤◌, Bool, true, false, cond, ◌&&◌, eqb, ltb, leb, List, [], ◌∷◌, length, take, drop, refl, arith}
use Rattle.std.proofs.lemmas.Bool.{cond_both}
use Rattle.ropes.specs.Rope.{Rope, empty, leaf, node, leaf_min, leaf_max, size, height, cells}
use Rattle.ropes.specs.Join.{rotate_double, rotate_right, rotate_left, balance, pair, merge, fits_beside, append, prepend, join, concat}
use Rattle.ropes.specs.Cut.{piece, front, back}

cells_double : (a b c : Rope) → cells (rotate_double a b c) ≡ cells a + cells b + cells c + 2
unfolding rotate_double
cells_double a empty c = omega arith
cells_double a (leaf b) c = omega arith
cells_double a (node x y) c = omega arith

cells_right : (l r : Rope) → cells (rotate_right l r) ≡ cells l + cells r + 1
unfolding rotate_right
cells_right empty r = refl
cells_right (leaf b) r = refl
cells_right (node a b) r = cond_both (leb (height b) (height a)) _ _ (λ z. cells z ≡ cells (node a b) + cells r + 1) (λ _. omega arith) (λ _. omega (arith, cells_double a b r))

cells_left : (l r : Rope) → cells (rotate_left l r) ≡ cells l + cells r + 1
unfolding rotate_left
cells_left l empty = refl
cells_left l (leaf b) = refl
cells_left l (node a b) = cond_both (leb (height a) (height b)) _ _ (λ z. cells z ≡ cells l + cells (node a b) + 1) (λ _. omega arith) (λ _. omega (arith, cells_double l a b))

pub cells_balance : (l r : Rope) → cells (balance l r) ≡ cells l + cells r + 1
unfolding balance
cells_balance l r =
    let P : Rope → Type 0 = λ z. cells z ≡ cells l + cells r + 1 in
    cond_both (ltb (height r + 1) (height l)) _ _ P (λ _. cells_right l r)
    (λ _. cond_both (ltb (height l + 1) (height r)) _ _ P (λ _. cells_left l r) (λ _. refl))

pub cells_pair : (a b : List ℕ) → cells (pair a b) ≤ 3
unfolding pair
cells_pair a b =
    let P : Rope → Type 0 = λ z. cells z ≤ 3 in
    cond_both (leb (length a + length b) leaf_max) _ _ P (λ _. omega arith)
    (λ _. cond_both (leb leaf_min (length a) && leb leaf_min (length b)) _ _ P (λ _. omega arith) (λ _. omega arith))

cells_merge : (l r : Rope) → cells (merge l r) ≤ cells l + cells r + 1
unfolding merge
cells_merge empty r = omega arith
cells_merge (leaf a) empty = omega arith
cells_merge (leaf a) (leaf b) = cells_pair a b
cells_merge (leaf a) (node c d) = omega arith
cells_merge (node a b) empty = omega arith
cells_merge (node a b) (leaf c) = omega arith
cells_merge (node a b) (node c d) = omega arith

pub cells_append : (l r : Rope) → cells (append l r) ≤ cells l + cells r + 1
unfolding append
cells_append empty r = omega arith
cells_append (leaf a) r = cells_merge (leaf a) r
cells_append (node a b) r =
    cond_both (fits_beside (height (node a b)) r) _ _ (λ z. cells z ≤ cells (node a b) + cells r + 1) (λ _. omega arith)
    (λ _. omega (arith, cells_balance a (append b r), cells_append b r))

pub cells_prepend : (l r : Rope) → cells (prepend l r) ≤ cells l + cells r + 1
unfolding prepend
cells_prepend l empty = omega arith
cells_prepend l (leaf b) = cells_merge l (leaf b)
cells_prepend l (node a b) =
    cond_both (fits_beside (height (node a b)) l) _ _ (λ z. cells z ≤ cells l + cells (node a b) + 1) (λ _. omega arith)
    (λ _. omega (arith, cells_balance (prepend l a) b, cells_prepend l a))

cells_join : (l r : Rope) → cells (join l r) ≤ cells l + cells r + 1
unfolding join
cells_join l r = cond_both (leb (height r) (height l)) _ _ (λ z. cells z ≤ cells l + cells r + 1) (λ _. cells_append l r) (λ _. cells_prepend l r)

pub cells_concat : (l r : Rope) → cells (concat l r) ≤ cells l + cells r + 1
unfolding concat
cells_concat empty r = omega arith
cells_concat (leaf a) empty = omega arith
cells_concat (leaf a) (leaf b) = cells_join (leaf a) (leaf b)
cells_concat (leaf a) (node c d) = cells_join (leaf a) (node c d)
cells_concat (node a b) empty = omega arith
cells_concat (node a b) (leaf c) = cells_join (node a b) (leaf c)
cells_concat (node a b) (node c d) = cells_join (node a b) (node c d)

pub cells_piece : (b : List ℕ) → cells (piece b) ≤ 1
unfolding piece
cells_piece [] = omega arith
cells_piece (x ∷ xs) = omega arith

pub cells_cut : (t : Rope) (i : ℕ) → cells (front t i) + cells (back t i) ≤ cells t + 1
unfolding front back
cells_cut empty i = omega arith
cells_cut (leaf b) i = omega (arith, cells_piece (take i b), cells_piece (drop i b))
cells_cut (node l r) i = go (eqb i 0) (leb (size l + size r) i) (ltb i (size l)) (cells_cut l i) (cells_cut r (i - size l))
  where
    j : ℕ
    j = i - size l

    go : (none all left : Bool) → cells (front l i) + cells (back l i) ≤ cells l + 1 → cells (front r j) + cells (back r j) ≤ cells r + 1
        → cells (cond none empty (cond all (node l r) (cond left (front l i) (concat l (front r j)))))
        + cells (cond none (node l r) (cond all empty (cond left (concat (back l i) r) (back r j)))) ≤ cells (node l r) + 1
    go true all left p q = omega arith
    go false true left p q = omega arith
    go false false true p q = omega (arith, cells_concat (back l i) r)
    go false false false p q = omega (arith, cells_concat l (front r j))
