-- Making a node of two ropes.
use Rattle.std.proofs.Common.{◌≡◌, ℕ, ◌+◌, ◌<◌, ◌≤◌, List, ◌∷◌, length, get_or, Some, None, Option, MatchOption, refl, ap, arith}
use Rattle.cells.specs.declared.cell.Ref.{Ref}
use Rattle.cells.specs.Tree.{Tree, none}
use Rattle.cells.specs.Tree.{node as cell_of}
use Rattle.cells.specs.Have.{Item, item, Have, opt, all_nodes}
use Rattle.ropes.specs.Rope.{Rope, leaf, bytes, height, cells}
use Rattle.ropes.specs.Rope.{node as node_of}
use Rattle.cells.specs.Steps.{Full, Making, Made, GaveUp, Released}
use Rattle.cells.proofs.Held.{have_none}
use Rattle.ropes.specs.Layout.{sums_of, leaf_data, node_data}
use Rattle.ropes.proofs.Cuts.{size_bytes}
use Rattle.ropes.proofs.Depths.{height_low}
use Rattle.ropes.proofs.Sums.{sum_small}
use Rattle.rope_cells.specs.Coded.{code}
use Rattle.rope_cells.specs.Packed.{Addable}
use Rattle.rope_cells.specs.Lending.{LendsSome, SummaryIs}
use Rattle.rope.specs.declared.sided.Side.{Side}
use Rattle.rope.specs.declared.sided.Side.TheVariants.{Left, Right}
use Rattle.rope.specs.Sided.{on_side, ordered}
use Rattle.rope.specs.Building.{Two, Joins, Fit, Free, Leafed, giving_up}
use Rattle.rope.specs.Cutting.{Leaves}
use Rattle.rope_cells.specs.declared.reading.Summary.{Summary}
use Rattle.rope_cells.proofs.Codes.{nodes_code}
use Rattle.rope.proofs.Holds.{swap_have, lends_some, full_capacity, after_by}

-- two ropes that are not empty may be read, and become the children of a node
module _ {F : Rope → Rope → Type 0} {m : List ℕ} {l r room : ℕ} (x : Two F m l r room) (f : Fit x.u x.v) where
  abbrev pub first_some : LendsSome m l
  first_some = lends_some m l x.u _ f.left (omega (arith, f.few)) f.some_left x.have

  abbrev pub second_some : LendsSome m r
  second_some = lends_some m r x.v _ f.right (omega (arith, f.few)) f.some_right (swap_have m _ _ _ x.have)

  abbrev pub as_fit : Two Fit m l r 0
  as_fit = record { u = x.u; v = x.v; rest = x.rest; fit = f; have = x.have; few = omega (arith, x.few) }

pub heights_low : (u v : Rope) → Fit u v → (height u < 36) × (height v < 36)
heights_low u v f = (height_low u f.left (omega (arith, f.few)), height_low v f.right (omega (arith, f.few)))

pub sums_addable : (u v : Rope) (a b : Summary) → Fit u v → SummaryIs u a → SummaryIs v b → Addable a.sums b.sums
sums_addable u v a b f p q =
    record {
      each = λ k.
          let x : get_or a.sums k 0 ≡ get_or (sums_of (bytes u)) k 0 = ap (λ z. get_or z k 0) p.sums in
          let y : get_or b.sums k 0 ≡ get_or (sums_of (bytes v)) k 0 = ap (λ z. get_or z k 0) q.sums in
          omega (arith, f.few, sum_small (bytes u) k, sum_small (bytes v) k, size_bytes u, size_bytes v);
    }

-- from m to m' the references l and r went into a new cell, or were let go
pub record Placed (m m' : List ℕ) (l r : ℕ) (w : List ℕ) (d : Option Ref) (before after : ℕ) : Type 0 where
  pub have : (u v : Tree) (rest : List Item) → Have m (item l u ∷ (item r v ∷ rest)) → Have m' (opt d (cell_of u v w) rest)
  pub full : d ≡ None → Full m
  pub cost : after ≤ before + 31 + giving_up d

pub placed : {m m' : List ℕ} {l r : ℕ} {w : List ℕ} {n n' : ℕ} (d : Option Ref) → MatchOption d (GaveUp m m' l r) (λ p. Made m m' p.0 l r w) → MatchOption d (n' ≤ n + 41) (λ _. n' ≤ n + 31) → Placed m m' l r w d n n'
placed None gone cost = record { have = gone.dropped.have; full = λ _. gone.full; cost = omega arith }
placed (Some p) made cost = record { have = made.have; full = λ e. absurd cc; cost = omega arith }

pub node_placed : {m m' : List ℕ} {l r : ℕ} {w : List ℕ} {d : Option Ref} {n1 n' : ℕ} (n : ℕ) → ((x : Two Fit m l r 0) → w ≡ node_data x.u x.v) → Placed m m' l r w d n1 n' → n1 ≤ n + 6 → Joins Fit node_of (λ _ _. 37) 0 m m' l r 0 d n n'
node_placed n is placed reads =
    record {
      runs = λ x.
          record {
            have = rw (is x) at (placed.have (code x.u) (code x.v) x.rest x.have);
            full = λ e. full_capacity _ _ (cells x.u + cells x.v + all_nodes x.rest + 0) (placed.full e) x.have (omega (arith, nodes_code x.u, nodes_code x.v));
            cost = omega (arith, placed.cost);
          };
    }

-- the two the other way round
abbrev pub two_swap : {F : Rope → Rope → Type 0} {m : List ℕ} {l r room : ℕ} → ((u v : Rope) → F u v → F v u) → Two F m l r room → Two F m r l room
two_swap {m = m} turn x = record { u = x.v; v = x.u; rest = x.rest; fit = turn x.u x.v x.fit; have = swap_have m _ _ x.rest x.have; few = x.few }

pub fit_swap : (u v : Rope) → Fit u v → Fit v u
fit_swap u v f = record { left = f.right; right = f.left; some_left = f.some_right; some_right = f.some_left; few = omega (arith, f.few) }

-- what was done with two in their order was done on a side
pub two_ordered : {F : Rope → Rope → Type 0} {m : List ℕ} {room : ℕ} (s : Side) (a b : Ref) → ((u v : Rope) → F u v → F v u) → Two F m a.0 b.0 room → Two F m (ordered s a b).0.0 (ordered s a b).1.0 room
two_ordered Right a b turn x = x
two_ordered Left a b turn x = two_swap turn x

pub joins_on : {F : Rope → Rope → Type 0} {f : Rope → Rope → Rope} {m m' : List ℕ} {d : Option Ref} {price more room n n' : ℕ} (s : Side) (a b : Ref) → ((u v : Rope) → F u v → F v u)
    → Joins F f (λ _ _. price) more m m' (ordered s a b).0.0 (ordered s a b).1.0 room d n n' → Joins F (on_side s f) (λ _ _. price) more m m' a.0 b.0 room d n n'
joins_on Right a b turn j = j
joins_on Left a b turn j = record { runs = λ x. after_by (j.runs (two_swap turn x)) refl refl (omega arith) (omega arith) }

-- a leaf has no children
no_children : {m : List ℕ} {xs : List Item} → Have m xs → Have m (item 0 none ∷ (item 0 none ∷ xs))
no_children h = have_none _ _ (have_none _ _ h)

pub leaf_making : {m : List ℕ} → Free m 0 → Making m 0 0
leaf_making x = record { left = none; right = none; rest = x.rest; have = no_children x.have }

pub leaf_placed : {m m' b w : List ℕ} {d : Option Ref} {n n' : ℕ} → w ≡ leaf_data b → Placed m m' 0 0 w d n n' → Leafed m m' b d n n'
leaf_placed is placed =
    record {
      runs = λ x. record { have = rw is at (placed.have none none x.rest (no_children x.have)); full = λ e. full_capacity _ _ _ (placed.full e) x.have (omega arith); cost = omega (arith, placed.cost) };
    }

-- two leaves
abbrev pub free_less : {m : List ℕ} {room : ℕ} (less : ℕ) → less ≤ room → Free m room → Free m less
free_less less le x = record { rest = x.rest; have = x.have; few = omega (arith, x.few) }

pub leaves_none : {m m1 f g : List ℕ} {n n1 : ℕ} → Leafed m m1 f None n n1 → Leaves m m1 f g None n n1
leaves_none first =
    record { runs = λ x. let r = first.runs (free_less 0 (omega arith) x) in record { have = r.have; full = λ _. omega (arith, r.full refl); cost = omega (arith, r.cost) } }

-- the first was made
module _ {m m1 f : List ℕ} {p : Ref} {n n1 : ℕ} (first : Leafed m m1 f (Some p) n n1) where
  abbrev pub leaf_second : Free m 1 → Free m1 0
  leaf_second x = record { rest = item p.0 (code (leaf f)) ∷ x.rest; have = (first.runs (free_less 0 (omega arith) x)).have; few = omega (arith, x.few) }

  pub leaves_one : {m2 m3 g : List ℕ} {n2 n3 : ℕ} → Leafed m1 m2 g None n1 n2 → Released m2 m3 p.0 → n3 ≤ n2 + 5 → length m1 ≡ length m → Leaves m m3 f g None n n3
  leaves_one second gone drops long =
      record {
        runs = λ x.
            let r = second.runs (leaf_second x) in
            record { have = gone.have _ _ r.have; full = λ _. omega (arith, r.full refl); cost = omega (arith, r.cost, (first.runs (free_less 0 (omega arith) x)).cost) };
      }

  pub leaves_both : {m2 g : List ℕ} {q : Ref} {n2 : ℕ} → Leafed m1 m2 g (Some q) n1 n2 → Leaves m m2 f g (Some (record { front = p; back = q })) n n2
  leaves_both {m2 = m2} second =
      record {
        runs = λ x.
            let r = second.runs (leaf_second x) in
            record { have = swap_have m2 _ _ _ r.have; full = λ e. absurd cc; cost = omega (arith, r.cost, (first.runs (free_less 0 (omega arith) x)).cost) };
      }

pub some_none : (p : Ref) → Some p ≡ None → ⊥
some_none p e = let z : ◌≡◌ {A = ℕ} 0 1 = cc in omega arith
