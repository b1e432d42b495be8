-- The steps of making one or two leaves of two.
use Rattle.std.proofs.Common.{◌≡◌, ℕ, ◌+◌, ◌/◌, ◌<◌, ◌≤◌, true, false, cond, ◌&&◌, ltb, leb, List, ◌++◌, length, take, drop, Some, None, Option, sym, refl, ap, ◌∙◌, subst, ⊎_elim, arith, length-append, length-drop, length-take}
use Rattle.std.proofs.lemmas.Bool.{le-leb, lt-leb, ltb-true, ltb-false, cond-true, cond-false, and_parts, and_cases}
use Rattle.cells.specs.declared.cell.Ref.{Ref}
use Rattle.cells.specs.Have.{all_nodes}
use Rattle.cells.specs.Steps.{Dropped}
use Rattle.ropes.proofs.Balance.{inner_some}
use Rattle.ropes.specs.Rope.{Rope, empty, leaf, leaf_min, leaf_max, height, cells, Octets, Whole}
use Rattle.ropes.specs.Rope.{node as node_of}
use Rattle.ropes.specs.Join.{pair, merge}
use Rattle.rope_cells.specs.Coded.{code}
use Rattle.rope_cells.specs.Leaves.{LendsLeaf}
use Rattle.rope.specs.declared.cutting.Cut.{Cut}
use Rattle.rope.specs.Merging.{stays}
use Rattle.rope.specs.Cutting.{Leaves}
use Rattle.rope.specs.Building.{After, Two, Joins, Fit, Free, Leafed, spread, Spreads, TwoLeaves}
use Rattle.rope.proofs.Holds.{swap_have, lends, after_by}
use Rattle.rope.proofs.Makings.{free_less, as_fit}

-- few bytes
pub spread_one : {m m' b : List ℕ} {d : Option Ref} {n n' : ℕ} → length b ≤ 48 → Leafed m m' b d n n' → Spreads m m' b d n n'
unfolding spread
spread_one h made = record { runs = λ x. after_by (made.runs (free_less 0 (omega arith) x)) refl (cond-true _ _ _ (le-leb _ _ h)) (omega arith) (omega arith) }

-- many
pub spread_fit : {f g : List ℕ} (b : List ℕ) → 48 < length b → length b ≤ 96 → f ≡ take (length b / 2) b → g ≡ drop (length b / 2) b → Octets f × Octets g → Fit (leaf f) (leaf g)
spread_fit b more few is_f is_g o =
    let lf = ap length is_f ∙ length-take (length b / 2) b in
    let lg = ap length is_g ∙ length-drop (length b / 2) b in
    record { left = (omega arith, omega arith, o.0); right = (omega arith, omega arith, o.1); some_left = omega arith; some_right = omega arith; few = omega arith }

pub spread_none : {m m1 b f g : List ℕ} {n n1 : ℕ} → Leaves m m1 f g None n n1 → Spreads m m1 b None n n1
spread_none made =
    record { runs = λ x. let r = made.runs (free_less 1 (omega arith) x) in record { have = r.have; full = λ _. omega (arith, r.full refl); cost = omega (arith, r.cost) } }

module _ {m m1 f g : List ℕ} {c : Cut} {n n1 : ℕ} (made : Leaves m m1 f g (Some c) n n1) (fit : Fit (leaf f) (leaf g)) where
  abbrev pub spread_two : Free m 2 → Two Fit m1 c.front.0 c.back.0 0
  spread_two x = record { u = leaf f; v = leaf g; rest = x.rest; fit = fit; have = (made.runs (free_less 1 (omega arith) x)).have; few = omega (arith, x.few) }

  pub spread_node : {m2 b : List ℕ} {d : Option Ref} {n2 : ℕ} → 48 < length b → f ≡ take (length b / 2) b → g ≡ drop (length b / 2) b → Joins Fit node_of (λ _ _. 37) 0 m1 m2 c.front.0 c.back.0 0 d n1 n2 → length m1 ≡ length m
      → Spreads m m2 b d n n2
  unfolding spread
  spread_node {b = b} more is_f is_g last long =
      let is : spread b ≡ node_of (leaf f) (leaf g) = cond-false _ _ _ (lt-leb _ _ more) ∙ cc in
      record { runs = λ x. after_by (last.runs (spread_two x)) long is (omega arith) (omega (arith, (made.runs (free_less 1 (omega arith) x)).cost)) }

-- what is as high as a leaf is one
pub record LeafView (t : Rope) : Type 0 where
  pub xs : List ℕ
  pub is : t ≡ leaf xs

pub leaf_view : (t : Rope) → Whole t → height t ≡ 1 → LeafView t
leaf_view empty w h = absurd (omega arith)
leaf_view (leaf b) w h = record { xs = b; is = refl }
leaf_view (node_of l r) w h = absurd (omega (arith, inner_some l w.0))

stay_node : (xs ys : List ℕ) → stays (length xs) (length ys) ≡ true → pair xs ys ≡ node_of (leaf xs) (leaf ys)
unfolding pair
stay_node xs ys e =
    let p = and_parts (ltb leaf_max (length xs + length ys)) (leb leaf_min (length xs) && leb leaf_min (length ys)) e in
    let more : leaf_max < length xs + length ys = ltb-true _ _ p.0 in
    cond-false (leb (length xs + length ys) leaf_max) _ _ (lt-leb _ _ more) ∙ cond-true (leb leaf_min (length xs) && leb leaf_min (length ys)) _ _ p.1

stay_spread : (xs ys : List ℕ) → stays (length xs) (length ys) ≡ false → pair xs ys ≡ spread (xs ++ ys)
unfolding pair spread
stay_spread xs ys e =
    let n : length (xs ++ ys) ≡ length xs + length ys = length-append xs ys in
    rw n (⊎_elim
    (λ p. let le : length xs + length ys ≤ leaf_max = ltb-false _ _ p in cond-true _ _ _ (le-leb _ _ le) ∙ sym (cond-true _ _ _ (le-leb _ _ le)))
    (λ p. ap (λ z. cond (leb (length xs + length ys) leaf_max) (leaf (xs ++ ys)) z) (cond-false _ _ _ p))
    (and_cases _ _ e))

-- two leaves that were read
module _ {m : List ℕ} {l r : ℕ} (x : Two TwoLeaves m l r 2) where
  abbrev pub left_leaf : LendsLeaf m l
  left_leaf =
      let o = leaf_view x.u x.fit.fit.left x.fit.one_left in
      record { lends = lends m l x.u _ x.fit.fit.left (omega (arith, x.fit.fit.few)) x.have; xs = o.xs; is = o.is }

  abbrev pub right_leaf : LendsLeaf m r
  right_leaf =
      let o = leaf_view x.v x.fit.fit.right x.fit.one_right in
      record { lends = lends m r x.v _ x.fit.fit.right (omega (arith, x.fit.fit.few)) (swap_have m _ _ _ x.have); xs = o.xs; is = o.is }

  abbrev pub merge_free : {m2 : List ℕ} → Dropped m m2 l r → Free m2 2
  merge_free gone = record { rest = x.rest; have = gone.have (code x.u) (code x.v) x.rest x.have; few = x.few }

  module _ {xs ys : List ℕ} (is_a : (y : LendsLeaf m l) → xs ≡ y.xs) (is_b : (y : LendsLeaf m r) → ys ≡ y.xs) where
    left_is : x.u ≡ leaf xs
    left_is = left_leaf.is ∙ ap leaf (sym (is_a left_leaf))

    right_is : x.v ≡ leaf ys
    right_is = right_leaf.is ∙ ap leaf (sym (is_b right_leaf))

    merge_is : merge x.u x.v ≡ pair xs ys
    unfolding merge
    merge_is = ap (λ z. merge z x.v) left_is ∙ ap (merge (leaf xs)) right_is

    pub merge_some : 1 ≤ length (xs ++ ys)
    merge_some = omega (arith, length-append xs ys, (subst Whole left_is x.fit.fit.left).0)

    -- they stay
    pub merged_node : {m2 : List ℕ} {d : Option Ref} {n1 n2 : ℕ} (n : ℕ) → stays (length xs) (length ys) ≡ true → Joins Fit node_of (λ _ _. 37) 0 m m2 l r 0 d n1 n2 → n1 ≤ n + 26
        → After m m2 d (merge x.u x.v) x.rest (cells x.u + cells x.v + all_nodes x.rest + 0) n2 (n + 135)
    merged_node n stay last reads =
        let e : node_of (leaf xs) (leaf ys) ≡ node_of x.u x.v = let p = left_is in let q = right_is in cc in
        after_by (last.runs (as_fit x x.fit.fit)) refl (merge_is ∙ (stay_node xs ys stay ∙ e)) (omega arith) (omega arith)

    -- they become one, or two others
    pub merged_spread : {m2 m3 : List ℕ} {d : Option Ref} {n2 n3 : ℕ} (n : ℕ) → stays (length xs) (length ys) ≡ false → (gone : Dropped m m2 l r) → Spreads m2 m3 (xs ++ ys) d n2 n3 → length m2 ≡ length m → n2 ≤ n + 36
        → After m m3 d (merge x.u x.v) x.rest (cells x.u + cells x.v + all_nodes x.rest + 0) n3 (n + 135)
    merged_spread n go gone last long drops =
        after_by (last.runs (merge_free gone)) long (merge_is ∙ stay_spread xs ys go) (omega (arith, ap cells left_is, ap cells right_is)) (omega arith)
