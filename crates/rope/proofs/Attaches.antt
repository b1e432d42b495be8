-- The steps of attaching a rope to another.
use Rattle.std.proofs.Common.{◌≡◌, ℕ, ◌+◌, ◌-◌, ◌*◌, ◌<◌, ◌≤◌, true, false, List, ◌∷◌, length, Some, None, Option, ◌≢◌, sym, refl, ap, ◌∙◌, ⊎_elim, arith}
use Rattle.cells.specs.declared.cell.Ref.{Ref}
use Rattle.cells.specs.Have.{item, all_nodes}
use Rattle.cells.specs.Steps.{Opening, Released}
use Rattle.ropes.specs.Rope.{Rope, leaf, height, cells, Whole}
use Rattle.ropes.specs.Join.{fits_beside, merge}
use Rattle.ropes.proofs.Balance.{Fits, inner_some}
use Rattle.ropes.proofs.Depths.{height_low}
use Rattle.ropes.proofs.Joins.{inner_whole, not_beside, pair_joined}
use Rattle.rope.specs.declared.sided.Side.{Side}
use Rattle.rope.specs.declared.sided.Side.TheVariants.{Left, Right}
use Rattle.rope_cells.specs.declared.reading.Shape.{Shape}
use Rattle.rope_cells.specs.Coded.{code}
use Rattle.rope_cells.specs.Lending.{LendsSome, ShapeIs, beside}
use Rattle.rope.specs.Sided.{node_on, on_side, balance_on, rotations_on, attach}
use Rattle.rope.specs.Building.{After, Two, Joins, Fit, Halved, Near, TwoLeaves, Onto, attach_price}
use Rattle.rope_cells.proofs.Codes.{nodes_code}
use Rattle.rope.proofs.Holds.{swap_have, back_have, after_by, after_release}
use Rattle.rope.proofs.Makings.{fit_swap, first_some, second_some, as_fit}
use Rattle.rope.proofs.Merges.{leaf_view}
use Rattle.rope.proofs.Partings.{view_opening, view_halves}
use Rattle.rope.proofs.Sides.{View, view, Level, height_on, attach_leaf, attach_beside, attach_inside, attach_fits, cells_attach, size_attach, attach_rotations, attach_steps}

pub leaves_swap : (u v : Rope) → TwoLeaves u v → TwoLeaves v u
leaves_swap u v f = record { fit = fit_swap u v f.fit; one_left = f.one_right; one_right = f.one_left }

-- two leaves become at most two
merge_low : (u v : Rope) → TwoLeaves u v → height (merge u v) ≤ 2
unfolding merge
merge_low u v f =
    let a = leaf_view u f.fit.left f.one_left in
    let b = leaf_view v f.fit.right f.one_right in
    let wa : Whole (leaf a.xs) = rw a.is at f.fit.left in
    let wb : Whole (leaf b.xs) = rw b.is at f.fit.right in
    let e : merge u v ≡ merge (leaf a.xs) (leaf b.xs) = let p = a.is in let q = b.is in cc in
    omega (arith, ap height e, (pair_joined a.xs b.xs wa wb).high)

merged_low : (side : Side) (u v : Rope) → TwoLeaves u v → height (on_side side merge u v) ≤ 2
merged_low Right u v f = merge_low u v f
merged_low Left u v f = merge_low v u (leaves_swap u v f)

-- a host, and a guest that is not higher
module _ (side : Side) {levels : ℕ} {m : List ℕ} {l r : ℕ} (x : Two (Onto levels) m l r (levels + 32)) where
  pub guest_low : height x.v < 36
  guest_low = height_low x.v x.fit.fit.right (omega (arith, x.fit.fit.few))

  -- the host is a leaf
  module _ (one : height x.u ≡ 1) where
    abbrev pub onto_leaves : Two TwoLeaves m l r 2
    onto_leaves =
        record {
          u = x.u;
          v = x.v;
          rest = x.rest;
          fit = record { fit = x.fit.fit; one_left = one; one_right = omega (arith, x.fit.lower, x.fit.fit.some_right) };
          have = x.have;
          few = omega (arith, x.few);
        }

    pub attached_leaf : {m2 : List ℕ} {d : Option Ref} {n1 n2 : ℕ} (n : ℕ) → Joins TwoLeaves (on_side side merge) (λ _ _. 135) 0 m m2 l r 2 d n1 n2 → n1 ≤ n + 2
        → After m m2 d (attach side x.u x.v) x.rest (cells x.u + cells x.v + all_nodes x.rest + 1) n2 (n + attach_price side x.u x.v)
    attached_leaf n last reads =
        let w = leaf_view x.u x.fit.fit.left one in
        let is : attach side x.u x.v ≡ on_side side merge x.u x.v = rw w.is (attach_leaf side w.xs x.v) in
        after_by (last.runs onto_leaves) refl is (omega arith) (omega (arith, ap height is, merged_low side x.u x.v onto_leaves.fit))

  -- the host is a node
  module _ (o : View side x.u) where
    pub attached_node : {m2 : List ℕ} {d : Option Ref} {n1 n2 : ℕ} (n : ℕ) → fits_beside (height x.u) x.v ≡ true → Joins Fit (node_on side) (λ _ _. 37) 0 m m2 l r 0 d n1 n2 → n1 ≤ n + 2
        → After m m2 d (attach side x.u x.v) x.rest (cells x.u + cells x.v + all_nodes x.rest + 1) n2 (n + attach_price side x.u x.v)
    attached_node n near last reads =
        let is = attach_beside side o x.v near in
        after_by (last.runs (as_fit x x.fit.fit)) refl is (omega arith) (omega (arith, ap height is, height_on side x.u x.v, x.fit.lower))

    pub host_opening : Opening m l
    host_opening = view_opening side o x.have (omega (arith, x.few))

  -- what the shapes say
  module _ {y z : Shape} (is_y : (v : LendsSome m l) → ShapeIs v.lends.rope y) (is_z : (v : LendsSome m r) → ShapeIs v.lends.rope z) where
    pub host_one : y.height ≡ 1 → height x.u ≡ 1
    host_one one = sym (is_y (first_some x x.fit.fit)).high ∙ one

    abbrev pub host_view : y.height ≢ 1 → View side x.u
    host_view more = view side x.u (let k : height x.u ≢ 1 = λ e. more ((is_y (first_some x x.fit.fit)).high ∙ e) in omega (arith, x.fit.fit.some_left))

    pub beside_is : fits_beside (height x.u) x.v ≡ beside y z
    beside_is =
        let p = (is_y (first_some x x.fit.fit)).high in
        let q = (is_z (second_some x x.fit.fit)).high in
        let s = (is_z (second_some x x.fit.fit)).little in
        cc

-- from m to m1 a host beside which the guest does not fit was let go for its children p and q
pub record Apart (side : Side) (levels : ℕ) (m m1 : List ℕ) (l r p q n n1 : ℕ) : Type 0 where
  pub view : (x : Two (Onto levels) m l r (levels + 32)) → View side x.u
  pub far : (x : Two (Onto levels) m l r (levels + 32)) → fits_beside (height x.u) x.v ≡ false
  pub cut : Halved side m m1 l p q
  pub long : length m1 ≡ length m
  pub cost : n1 ≤ n + 13

module _ {side : Side} {levels : ℕ} {m m1 : List ℕ} {l r p q n n1 : ℕ} (i : Apart side levels m m1 l r p q n n1) where
  module _ (x : Two (Onto levels) m l r (levels + 32)) where
    abbrev pub host : View side x.u
    host = i.view x

    pub host_levels : 1 ≤ levels
    host_levels = omega (arith, x.fit.deep, host.high)

    pub children : Level host.first host.second
    children = host.level x.fit.fit.left

    pub inner_lower : height x.v ≤ height host.second
    inner_lower =
        let l = children in
        ⊎_elim (λ (q : height x.v + 1 < height x.u). omega (arith, l.low, l.high, host.high)) (λ (q : height x.v ≤ 1). omega (arith, inner_some host.second l.second)) (not_beside (height x.u) x.v (i.far x))

    pub inner_fits : Fits (attach side host.second x.v) (height host.second)
    inner_fits = attach_fits side host.second x.v children.second x.fit.fit.right x.fit.fit.some_right inner_lower

    -- the price of a step down and of a balance
    price_down : attach_price side host.second x.v + (52 + 98 * rotations_on side host.first (attach side host.second x.v)) ≤ attach_price side x.u x.v
    price_down =
        let k = inner_fits in
        let r = attach_rotations side host x.v (host.inner x.fit.fit.left) x.fit.fit.right x.fit.fit.some_right inner_lower (i.far x) in
        let s = attach_steps side host x.v (host.inner x.fit.fit.left) (i.far x) in
        omega (arith, k.low, k.high, r, s, ap height (attach_inside side host x.v (i.far x)))

    abbrev pub inner_two : Two (Onto (levels - 1)) m1 q r ((levels - 1) + 32)
    inner_two =
        let l = children in
        let some = host_levels in
        record {
          u = host.second;
          v = x.v;
          rest = item p (code host.first) ∷ x.rest;
          fit = record {
            fit = record {
              left = inner_whole host.second l.second;
              right = x.fit.fit.right;
              some_left = inner_some host.second l.second;
              some_right = x.fit.fit.some_right;
              few = omega (arith, x.fit.fit.few, host.long);
            };
            lower = inner_lower;
            deep = omega (arith, x.fit.deep, host.high);
          };
          have = back_have m1 _ _ _ _ (view_halves i.cut host x.have);
          few = omega (arith, x.few);
        }

  module _ {m2 : List ℕ} {d : Ref} {n2 : ℕ} (inner : Joins (Onto (levels - 1)) (attach side) (attach_price side) 1 m1 m2 q r ((levels - 1) + 32) (Some d) n1 n2) where
    abbrev pub outer_two : Two (Onto levels) m l r (levels + 32) → Two Near m2 p d.0 16
    outer_two x =
        let l = children x in
        let k = inner_fits x in
        record {
          u = (host x).first;
          v = attach side (host x).second x.v;
          rest = x.rest;
          fit = record {
            first = l.first;
            second = k.inner;
            low = omega (arith, k.low, l.low);
            high = omega (arith, k.high, l.high);
            few = omega (arith, x.fit.fit.few, (host x).long, size_attach side (host x).second x.v);
          };
          have = swap_have m2 _ _ _ (inner.runs (inner_two x)).have;
          few = omega (arith, x.few);
        }

    pub attached_inside : {m3 : List ℕ} {e : Option Ref} {n3 : ℕ} → Joins Near (balance_on side) (λ u v. 39 + 98 * rotations_on side u v) 1 m2 m3 p d.0 16 e n2 n3 → length m2 ≡ length m1
        → Joins (Onto levels) (attach side) (attach_price side) 1 m m3 l r (levels + 32) e n n3
    attached_inside last long2 =
        record {
          runs = λ x.
              after_by (last.runs (outer_two x)) (omega (arith, i.long)) (attach_inside side (host x) x.v (i.far x)) (omega (arith, cells_attach side (host x).second x.v, (host x).count))
              (omega (arith, i.cost, (inner.runs (inner_two x)).cost, price_down x));
        }

  pub attached_none : {m2 m3 : List ℕ} {n2 n3 : ℕ} → Joins (Onto (levels - 1)) (attach side) (attach_price side) 1 m1 m2 q r ((levels - 1) + 32) None n1 n2 → Released m2 m3 p → n3 ≤ n2 + 5
      → Joins (Onto levels) (attach side) (attach_price side) 1 m m3 l r (levels + 32) None n n3
  attached_none inner gone drops =
      record { runs = λ x. after_release (inner.runs (inner_two x)) gone drops i.long (omega (arith, nodes_code (host x).first, (host x).count)) (omega (arith, i.cost, price_down x)) }
