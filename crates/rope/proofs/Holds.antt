-- References that are held: reordering them, and reading what they refer to.
use Rattle.std.proofs.Common.{◌≡◌, ℕ, ◌+◌, ◌<◌, ◌≤◌, IfNone, List, ◌∷◌, length, Some, None, Option, refl, arith}
use Rattle.cells.specs.declared.cell.Ref.{Ref}
use Rattle.cells.specs.Tree.{Tree}
use Rattle.cells.specs.Have.{Item, item, Have, opt, all_nodes}
use Rattle.cells.specs.Steps.{Full, Opening, Holding, Released}
use Rattle.cells.proofs.Held.{reorder, lend}
use Rattle.ropes.specs.Rope.{Rope, size, height, cells, Whole}
use Rattle.ropes.specs.Layout.{node_data}
use Rattle.rope_cells.proofs.Codes.{nodes_code}
use Rattle.rope_cells.specs.Coded.{code}
use Rattle.rope_cells.specs.Lending.{Lends, LendsSome}
use Rattle.rope.specs.declared.sided.Side.{Side}
use Rattle.rope.specs.declared.sided.Side.TheVariants.{Left, Right}
use Rattle.rope.specs.Sided.{node_on}
use Rattle.rope.specs.Building.{capacity, After}

pub swap_have : (m : List ℕ) (x y : Item) (xs : List Item) → Have m (x ∷ (y ∷ xs)) → Have m (y ∷ (x ∷ xs))
swap_have m x y xs h = reorder m (x ∷ (y ∷ xs)) (y ∷ (x ∷ xs)) (λ q. omega arith) (λ s. (s.1.0, (s.0, s.1.1))) h

-- the third first
pub third_have : (m : List ℕ) (x y z : Item) (xs : List Item) → Have m (x ∷ (y ∷ (z ∷ xs))) → Have m (z ∷ (x ∷ (y ∷ xs)))
third_have m x y z xs h = reorder m (x ∷ (y ∷ (z ∷ xs))) (z ∷ (x ∷ (y ∷ xs))) (λ q. omega arith) (λ s. (s.1.1.0, (s.0, (s.1.0, s.1.1.1)))) h

-- the first third
pub back_have : (m : List ℕ) (x y z : Item) (xs : List Item) → Have m (x ∷ (y ∷ (z ∷ xs))) → Have m (y ∷ (z ∷ (x ∷ xs)))
back_have m x y z xs h = reorder m (x ∷ (y ∷ (z ∷ xs))) (y ∷ (z ∷ (x ∷ xs))) (λ q. omega arith) (λ s. (s.1.0, (s.1.1.0, (s.0, s.1.1.1)))) h

-- a held rope may be read
abbrev pub lends : (m : List ℕ) (p : ℕ) (t : Rope) (xs : List Item) → Whole t → size t < 536870912 → Have m (item p (code t) ∷ xs) → Lends m p
lends m p t xs whole few h = record { rope = t; rest = item p (code t) ∷ xs; whole = whole; few = few; have = h; lent = lend m p (code t) xs h }

abbrev pub lends_some : (m : List ℕ) (p : ℕ) (t : Rope) (xs : List Item) → Whole t → size t < 536870912 → 1 ≤ height t → Have m (item p (code t) ∷ xs) → LendsSome m p
lends_some m p t xs whole few some h = record { lends = lends m p t xs whole few h; some = some }

-- where there is no room, what is held has as many cells as there is room for
pub full_capacity : (m : List ℕ) (xs : List Item) (n : ℕ) → Full m → Have m xs → all_nodes xs ≤ n → capacity (length m) ≤ 8 + n
full_capacity m xs n full h le = omega (arith, full.few xs h, full.no_room)

-- what stands first is held
pub holding : {m : List ℕ} {p : ℕ} {t : Tree} {xs : List Item} → Have m (item p t ∷ xs) → Holding m p
holding h = record { tree = _; rest = _; have = h }

-- what a call made, told of what was there before
pub after_by : {m m1 m' : List ℕ} {d : Option Ref} {t t' : Rope} {rest : List Item} {most most' n limit limit' : ℕ} → After m1 m' d t rest most n limit → length m1 ≡ length m → t' ≡ t → most ≤ most' → limit ≤ limit'
    → After m m' d t' rest most' n limit'
after_by a long is le low = record { have = rw is a.have; full = λ e. omega (arith, a.full e); cost = omega (arith, a.cost) }

-- where nothing was made, what was held beside it still is
pub none_held : {m m' : List ℕ} {d : Option Ref} {t : Rope} {p : ℕ} {v : Tree} {rest : List Item} {most n limit : ℕ} → After m m' d t (item p v ∷ rest) most n limit → IfNone d (Holding m' p)
none_held {d = None} a = holding a.have
none_held {d = Some x} a = tt

-- nothing was made, and what was held beside it was let go
pub after_release : {m m1 m2 m' : List ℕ} {t t' : Rope} {p : ℕ} {v : Tree} {rest : List Item} {most most' n n' limit limit' : ℕ} → After m1 m2 None t (item p v ∷ rest) most n limit → Released m2 m' p → n' ≤ n + 5 → length m1 ≡ length m
    → most ≤ most' → limit + 5 ≤ limit' → After m m' None t' rest most' n' limit'
after_release a gone drops long le low = record { have = gone.have _ _ a.have; full = λ _. omega (arith, a.full refl); cost = omega (arith, a.cost) }

-- a rope that may be there goes behind the next
pub opt_next : (m : List ℕ) (d : Option Ref) (t : Tree) (x : Item) (xs : List Item) → Have m (opt d t (x ∷ xs)) → Have m (x ∷ opt d t xs)
opt_next m None t x xs h = h
opt_next m (Some d) t x xs h = swap_have m (item d.0 t) x xs h

-- what may be there goes behind the next two
pub opt_back : (m : List ℕ) (d : Option Ref) (t : Tree) (x y : Item) (xs : List Item) → Have m (opt d t (x ∷ (y ∷ xs))) → Have m (x ∷ (y ∷ opt d t xs))
opt_back m None t x y xs h = h
opt_back m (Some d) t x y xs h = back_have m (item d.0 t) x y xs h

pub opt_swap : (m : List ℕ) (d e : Option Ref) (t u : Tree) (xs : List Item) → Have m (opt d t (opt e u xs)) → Have m (opt e u (opt d t xs))
opt_swap m None e t u xs h = h
opt_swap m (Some d) None t u xs h = h
opt_swap m (Some d) (Some e) t u xs h = swap_have m (item d.0 t) (item e.0 u) xs h

pub length_opt : (d : Option Ref) (t : Tree) (xs : List Item) → length (opt d t xs) ≤ length xs + 1
length_opt None t xs = omega arith
length_opt (Some d) t xs = omega arith

pub nodes_opt : (d : Option Ref) (t : Rope) (xs : List Item) → all_nodes (opt d (code t) xs) ≤ cells t + all_nodes xs
nodes_opt None t xs = omega arith
nodes_opt (Some d) t xs = omega (arith, nodes_code t)

-- a node on either side may be opened
pub opening_on : (side : Side) (m : List ℕ) (p : ℕ) (a b : Rope) (xs : List Item) → Have m (item p (code (node_on side a b)) ∷ xs) → length xs < 2147483640 → Opening m p
opening_on Right m p a b xs h few = record { left = code a; right = code b; word = node_data a b; rest = xs; have = h; few = few }
opening_on Left m p a b xs h few = record { left = code b; right = code a; word = node_data b a; rest = xs; have = h; few = few }
