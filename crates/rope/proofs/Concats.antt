-- The steps of a concat.
use Rattle.std.proofs.Common.{◌≡◌, ℕ, ◌+◌, ◌<◌, ◌≤◌, true, false, leb, ◌==◌, List, ◌∷◌, Some, Option, sym, refl, ◌∙◌, subst, arith}
use Rattle.std.proofs.lemmas.Bool.{eqb-true, eqb-false, le-leb, lt-leb, cond-true, cond-false}
use Rattle.cells.specs.declared.cell.Ref.{Ref}
use Rattle.cells.specs.Tree.{Tree}
use Rattle.cells.specs.Have.{Item, item, refs, Have, all_nodes}
use Rattle.cells.specs.Sound.{Sound}
use Rattle.cells.proofs.Held.{sound_none}
use Rattle.ropes.specs.Rope.{Rope, empty, leaf, height, cells}
use Rattle.ropes.specs.Rope.{node as node_of}
use Rattle.ropes.specs.Join.{join, concat}
use Rattle.ropes.specs.Costs.{steps, concat_steps}
use Rattle.ropes.proofs.Depths.{height_low}
use Rattle.rope.specs.declared.sided.Side.TheVariants.{Left, Right}
use Rattle.rope_cells.specs.declared.reading.Shape.{Shape}
use Rattle.rope_cells.specs.Lending.{LendsSome, ShapeIs}
use Rattle.rope.specs.Sided.{attach}
use Rattle.rope.specs.Building.{After, Two, Joins, Fit, Onto, attach_price, Any, concat_price}
use Rattle.rope_cells.proofs.Codes.{none_empty, some_height}
use Rattle.rope.proofs.Holds.{swap_have, after_by}
use Rattle.rope.proofs.Makings.{fit_swap, first_some, second_some}

-- a reference to nothing need not be held
pub drop_none : (m : List ℕ) (p : ℕ) (v : Tree) (xs : List Item) → p ≡ 0 → Have m (item p v ∷ xs) → Have m xs
drop_none m p v xs e h = record { sound = sound_none m _ (subst (λ z. Sound m (z ∷ refs xs)) e h.sound); stand = h.stand.1 }

pub concat_nil : (u : Rope) → concat u empty ≡ u
unfolding concat
concat_nil empty = refl
concat_nil (leaf a) = refl
concat_nil (node_of a b) = refl

pub concat_join : (u v : Rope) → 1 ≤ height u → 1 ≤ height v → concat u v ≡ join u v
unfolding concat
concat_join empty v hu hv = absurd (omega arith)
concat_join (leaf a) empty hu hv = absurd (omega arith)
concat_join (leaf a) (leaf b) hu hv = refl
concat_join (leaf a) (node_of c d) hu hv = refl
concat_join (node_of a b) empty hu hv = absurd (omega arith)
concat_join (node_of a b) (leaf c) hu hv = refl
concat_join (node_of a b) (node_of c d) hu hv = refl

pub concat_none_left : {m : List ℕ} {l : ℕ} {r : Ref} {n : ℕ} → true ≡ (l == 0) → Joins Any concat concat_price 1 m m l r.0 128 (Some r) n n
unfolding concat
concat_none_left {m = m} {l = l} none =
    let e = eqb-true _ _ (sym none) in
    record { runs = λ x. record { have = rw (none_empty m l x.u e x.have.stand.0) (drop_none m l _ _ e x.have); full = λ z. absurd cc; cost = omega arith } }

pub concat_none_right : {m : List ℕ} {l : Ref} {r : ℕ} {n : ℕ} → true ≡ (r == 0) → Joins Any concat concat_price 1 m m l.0 r 128 (Some l) n n
concat_none_right {m = m} {r = r} none =
    let e = eqb-true _ _ (sym none) in
    record {
      runs = λ x.
          record { have = rw (none_empty m r x.v e x.have.stand.1.0, concat_nil x.u) (drop_none m r _ _ e (swap_have m _ _ _ x.have)); full = λ z. absurd cc; cost = omega arith };
    }

module _ {m : List ℕ} {l r : ℕ} (x : Two Any m l r 128) (some_l : false ≡ (l == 0)) (some_r : false ≡ (r == 0)) where
  pub any_fit : Fit x.u x.v
  any_fit =
      record {
        left = x.fit.left;
        right = x.fit.right;
        some_left = some_height m l x.u (eqb-false _ _ (sym some_l)) x.have.stand.0;
        some_right = some_height m r x.v (eqb-false _ _ (sym some_r)) x.have.stand.1.0;
        few = x.fit.few;
      }

  concat_is : concat x.u x.v ≡ join x.u x.v
  concat_is = concat_join x.u x.v any_fit.some_left any_fit.some_right

  module _ {y z : Shape} (is_y : (v : LendsSome m l) → ShapeIs v.lends.rope y) (is_z : (v : LendsSome m r) → ShapeIs v.lends.rope z) where
    pub any_heights : (y.height ≡ height x.u) × (z.height ≡ height x.v) × (height x.u < 36) × (height x.v < 36)
    any_heights = ((is_y (first_some x any_fit)).high, (is_z (second_some x any_fit)).high, height_low x.u x.fit.left (omega (arith, x.fit.few)), height_low x.v x.fit.right (omega (arith, x.fit.few)))

    -- the right is not higher
    module _ (le : z.height ≤ y.height) where
      abbrev pub any_onto : Two (Onto y.height) m l r (y.height + 32)
      any_onto =
          let h = any_heights in
          record { u = x.u; v = x.v; rest = x.rest; fit = record { fit = any_fit; lower = omega (arith, h.0, h.1); deep = omega (arith, h.0) }; have = x.have; few = omega (arith, x.few, h.0, h.2) }

      pub concat_right : {m2 : List ℕ} {d : Option Ref} {n1 n2 : ℕ} (n : ℕ) → Joins (Onto y.height) (attach Right) (attach_price Right) 1 m m2 l r (y.height + 32) d n1 n2 → n1 ≤ n + 2
          → After m m2 d (concat x.u x.v) x.rest (cells x.u + cells x.v + all_nodes x.rest + 1) n2 (n + concat_price x.u x.v)
      unfolding join concat_steps
      concat_right n last reads =
          let h = any_heights in
          let test : leb (height x.v) (height x.u) ≡ true = le-leb _ _ (omega (arith, h.0, h.1)) in
          let price : concat_steps x.u x.v ≡ steps (height x.u) x.v = cond-true _ _ _ test in
          after_by (last.runs any_onto) refl (concat_is ∙ cond-true _ _ _ test) (omega arith) (omega (arith, price))

    -- it is higher
    module _ (more : y.height < z.height) where
      abbrev pub any_unto : Two (Onto z.height) m r l (z.height + 32)
      any_unto =
          let h = any_heights in
          record {
            u = x.v;
            v = x.u;
            rest = x.rest;
            fit = record { fit = fit_swap x.u x.v any_fit; lower = omega (arith, h.0, h.1); deep = omega (arith, h.1) };
            have = swap_have m _ _ _ x.have;
            few = omega (arith, x.few, h.1, h.3);
          }

      pub concat_left : {m2 : List ℕ} {d : Option Ref} {n1 n2 : ℕ} (n : ℕ) → Joins (Onto z.height) (attach Left) (attach_price Left) 1 m m2 r l (z.height + 32) d n1 n2 → n1 ≤ n + 2
          → After m m2 d (concat x.u x.v) x.rest (cells x.u + cells x.v + all_nodes x.rest + 1) n2 (n + concat_price x.u x.v)
      unfolding join concat_steps
      concat_left n last reads =
          let h = any_heights in
          let test : leb (height x.v) (height x.u) ≡ false = lt-leb _ _ (omega (arith, h.0, h.1)) in
          let price : concat_steps x.u x.v ≡ steps (height x.v) x.u = cond-false _ _ _ test in
          after_by (last.runs any_unto) refl (concat_is ∙ cond-false _ _ _ test) (omega arith) (omega (arith, price))
