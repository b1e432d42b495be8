-- The steps of a rotation.
use Rattle.std.proofs.Common.{◌≡◌, ℕ, ◌+◌, ◌<◌, ◌≤◌, List, ◌∷◌, length, Some, None, Option, refl, ap, ◌∙◌, arith}
use Rattle.cells.specs.declared.cell.Ref.{Ref}
use Rattle.cells.specs.Have.{item, Have, all_nodes}
use Rattle.cells.specs.Steps.{Opening, Making, Dropped, Released}
use Rattle.ropes.specs.Rope.{Rope, size, height, cells, Inner}
use Rattle.ropes.proofs.Balance.{inner_some}
use Rattle.ropes.proofs.Joins.{inner_whole}
use Rattle.rope.specs.declared.sided.Side.{Side}
use Rattle.rope_cells.specs.Coded.{code}
use Rattle.rope_cells.specs.Lending.{LendsSome, ShapeIs}
use Rattle.rope_cells.specs.declared.reading.Shape.{Shape}
use Rattle.rope.specs.Sided.{node_on, rotate_on, double_on}
use Rattle.rope.specs.Building.{After, Two, Joins, Fit, Halved, Peak, Doubles, Leaning, Near}
use Rattle.rope_cells.proofs.Codes.{nodes_code}
use Rattle.rope.proofs.Holds.{swap_have, third_have, back_have, lends_some, after_by, after_release}
use Rattle.rope.proofs.Makings.{first_some, second_some}
use Rattle.rope.proofs.Partings.{view_opening, view_halves}
use Rattle.rope.proofs.Sides.{View, view, Level, level_inner, cells_on, size_on, rotate_single, rotate_twice, double_node}

-- parts that may become the children of a node
pub inner_fit : (u v : Rope) → Inner u → Inner v → size u + size v < 536870912 → Fit u v
inner_fit u v iu iv few = record { left = inner_whole u iu; right = inner_whole v iv; some_left = inner_some u iu; some_right = inner_some v iv; few = few }

-- three parts, of which the second is taken in two
module _ (side : Side) {m : List ℕ} {a b c : ℕ} (x : Peak m a b c) where
  abbrev pub peak_view : View side x.v
  peak_view = view side x.v (omega (arith, x.high, inner_some x.w x.third))

  pub peak_opening : Opening m b
  peak_opening = view_opening side peak_view (swap_have m _ _ _ x.have) (omega (arith, x.few))

  -- the children of the two nodes
  pub peak_levels : Level x.u peak_view.first × Level peak_view.second x.w
  peak_levels =
      let o = peak_view in
      let l = o.level (inner_whole x.v x.second) in (
        record { first = x.first; second = l.first; low = omega (arith, x.high, x.level, o.high, l.low, l.high); high = omega (arith, x.high, x.level, o.high) },
        record { first = l.second; second = x.third; low = omega (arith, x.high, o.high); high = omega (arith, x.high, o.high, l.low, l.high) },
      )

  module _ {m1 : List ℕ} {p q : ℕ} (cut : Halved side m m1 b p q) where
    abbrev pub double_first : Two Fit m1 a p 0
    double_first =
        let o = peak_view in
        record {
          u = x.u;
          v = o.first;
          rest = item q (code o.second) ∷ (item c (code x.w) ∷ x.rest);
          fit = inner_fit x.u o.first x.first peak_levels.0.second (omega (arith, x.small, o.long));
          have = third_have m1 _ _ _ _ (view_halves cut o (swap_have m _ _ _ x.have));
          few = omega (arith, x.few);
        }

    module _ {m2 : List ℕ} {n1 n2 : ℕ} where
      -- no room for the first node
      module _ (one : Joins Fit (node_on side) (λ _ _. 37) 0 m1 m2 a p 0 None n1 n2) where
        pub double_making : Making m2 q c
        double_making = record { left = code peak_view.second; right = code x.w; rest = x.rest; have = (one.runs double_first).have }

        pub double_dropped : {m3 : List ℕ} {n3 : ℕ} (n : ℕ) → Dropped m2 m3 q c → n3 ≤ n2 + 10 → length m1 ≡ length m → n1 ≤ n + 11 → After m m3 None (double_on side x.u x.v x.w) x.rest (cells x.u + cells x.v + cells x.w + all_nodes x.rest + 1) n3 (n + 122)
        double_dropped n gone drops long1 steps =
            let o = peak_view in
            let r = one.runs double_first in
            record { have = gone.have _ _ _ r.have; full = λ _. omega (arith, r.full refl, nodes_code o.second, nodes_code x.w, o.count); cost = omega (arith, r.cost) }

      module _ {d : Ref} (one : Joins Fit (node_on side) (λ _ _. 37) 0 m1 m2 a p 0 (Some d) n1 n2) where
        abbrev pub double_second : Two Fit m2 q c 0
        double_second =
            let o = peak_view in
            record {
              u = o.second;
              v = x.w;
              rest = item d.0 (code (node_on side x.u o.first)) ∷ x.rest;
              fit = inner_fit o.second x.w peak_levels.1.first x.third (omega (arith, x.small, o.long));
              have = back_have m2 _ _ _ _ (one.runs double_first).have;
              few = omega (arith, x.few);
            }

        module _ {m3 : List ℕ} {n3 : ℕ} where
          -- no room for the second
          module _ (two : Joins Fit (node_on side) (λ _ _. 37) 0 m2 m3 q c 0 None n2 n3) where
            pub double_released : {m4 : List ℕ} {n4 : ℕ} (n : ℕ) → Released m3 m4 d.0 → n4 ≤ n3 + 5 → length m1 ≡ length m → n1 ≤ n + 11 → length m2 ≡ length m1 → After m m4 None (double_on side x.u x.v x.w) x.rest (cells x.u + cells x.v + cells x.w + all_nodes x.rest + 1) n4 (n + 122)
            double_released n gone drops long1 steps long2 =
                let o = peak_view in
                after_release (two.runs double_second) gone drops (omega arith) (omega (arith, nodes_code (node_on side x.u o.first), cells_on side x.u o.first, o.count)) (omega (arith, (one.runs double_first).cost))

          -- two nodes
          module _ {e : Ref} (two : Joins Fit (node_on side) (λ _ _. 37) 0 m2 m3 q c 0 (Some e) n2 n3) where
            abbrev pub double_last : Two Fit m3 d.0 e.0 0
            double_last =
                let o = peak_view in
                record {
                  u = node_on side x.u o.first;
                  v = node_on side o.second x.w;
                  rest = x.rest;
                  fit = inner_fit (node_on side x.u o.first) (node_on side o.second x.w) (level_inner side _ _ peak_levels.0) (level_inner side _ _ peak_levels.1)
                      (omega (arith, x.small, o.long, size_on side x.u o.first, size_on side o.second x.w));
                  have = swap_have m3 _ _ _ (two.runs double_second).have;
                  few = omega (arith, x.few);
                }

            pub doubled : {m4 : List ℕ} {f : Option Ref} {n4 : ℕ} (n : ℕ) → Joins Fit (node_on side) (λ _ _. 37) 0 m3 m4 d.0 e.0 0 f n3 n4 → length m1 ≡ length m → n1 ≤ n + 11 → length m2 ≡ length m1 → length m3 ≡ length m2
                → After m m4 f (double_on side x.u x.v x.w) x.rest (cells x.u + cells x.v + cells x.w + all_nodes x.rest + 1) n4 (n + 122)
            doubled n last long1 steps long2 long3 =
                let o = peak_view in
                after_by (last.runs double_last) (omega arith) (ap (λ z. double_on side x.u z x.w) o.is ∙ double_node side x.u o.first o.second x.w)
                (omega (arith, cells_on side x.u o.first, cells_on side o.second x.w, o.count)) (omega (arith, (one.runs double_first).cost, (two.runs double_second).cost))

-- a part and another that is too high beside it, which is taken in two
module _ (side : Side) {m : List ℕ} {a b : ℕ} (x : Two Leaning m a b 16) where
  abbrev pub lean_view : View side x.v
  lean_view = view side x.v (omega (arith, x.fit.high))

  pub lean_opening : Opening m b
  lean_opening = view_opening side lean_view (swap_have m _ _ _ x.have) (omega (arith, x.few))

  pub lean_level : Level lean_view.first lean_view.second
  lean_level = lean_view.level (inner_whole x.v x.fit.second)

  module _ {m1 : List ℕ} {p q : ℕ} (cut : Halved side m m1 b p q) where
    pub lean_have : Have m1 (item a (code x.u) ∷ (item p (code lean_view.first) ∷ (item q (code lean_view.second) ∷ x.rest)))
    lean_have = third_have m1 _ _ _ _ (view_halves cut lean_view (swap_have m _ _ _ x.have))

    abbrev pub lean_first : LendsSome m1 p
    lean_first =
        let l = lean_level in
        lends_some m1 p lean_view.first _ (inner_whole lean_view.first l.first) (omega (arith, x.fit.few, lean_view.long)) (inner_some lean_view.first l.first) (swap_have m1 _ _ _ lean_have)

    abbrev pub lean_second : LendsSome m1 q
    lean_second =
        let l = lean_level in
        lends_some m1 q lean_view.second _ (inner_whole lean_view.second l.second) (omega (arith, x.fit.few, lean_view.long)) (inner_some lean_view.second l.second) (third_have m1 _ _ _ _ lean_have)

-- from m to m1 it was taken in two, p and q, of these heights
pub record Turned (side : Side) (m m1 : List ℕ) (a b p q y z n n1 : ℕ) : Type 0 where
  pub cut : Halved side m m1 b p q
  pub first : (x : Two Leaning m a b 16) → y ≡ height (lean_view side x).first
  pub second : (x : Two Leaning m a b 16) → z ≡ height (lean_view side x).second
  pub long : length m1 ≡ length m
  pub cost : n1 ≤ n + 13

module _ {side : Side} {m m1 : List ℕ} {a b p q y z n n1 : ℕ} (i : Turned side m m1 a b p q y z n n1) where
  -- the first of the two is higher
  module _ (more : z < y) where
    abbrev pub lean_peak : Two Leaning m a b 16 → Peak m1 a p q
    lean_peak x =
        let o = lean_view side x in
        let l = lean_level side x in
        record {
          u = x.u;
          v = o.first;
          w = o.second;
          rest = x.rest;
          first = x.fit.first;
          second = l.first;
          third = l.second;
          high = omega (arith, l.low, i.first x, i.second x);
          level = omega (arith, x.fit.high, o.high, l.low, i.first x, i.second x);
          small = omega (arith, x.fit.few, o.long);
          have = lean_have side x i.cut;
          few = omega (arith, x.few);
        }

    pub lean_doubled : {m2 : List ℕ} {d : Option Ref} {n2 : ℕ} → Doubles side m1 m2 a p q d n1 n2 → Joins Leaning (rotate_on side) (λ _ _. 135) 1 m m2 a b 16 d n n2
    lean_doubled last =
        record {
          runs = λ x.
              let o = lean_view side x in
              let high : height o.second < height o.first = omega (arith, i.first x, i.second x) in
              after_by (last.runs (lean_peak x)) i.long (ap (rotate_on side x.u) o.is ∙ rotate_twice side x.u o.first o.second high) (omega (arith, o.count)) (omega (arith, i.cost));
        }

  -- it is not
  abbrev pub lean_single : Two Leaning m a b 16 → Two Fit m1 a p 0
  lean_single x =
      let o = lean_view side x in
      record {
        u = x.u;
        v = o.first;
        rest = item q (code o.second) ∷ x.rest;
        fit = inner_fit x.u o.first x.fit.first (lean_level side x).first (omega (arith, x.fit.few, o.long));
        have = lean_have side x i.cut;
        few = omega (arith, x.few);
      }

  pub lean_released : {m2 m3 : List ℕ} {n2 n3 : ℕ} → Joins Fit (node_on side) (λ _ _. 37) 0 m1 m2 a p 0 None n1 n2 → Released m2 m3 q → n3 ≤ n2 + 5 → Joins Leaning (rotate_on side) (λ _ _. 135) 1 m m3 a b 16 None n n3
  lean_released one gone drops =
      record { runs = λ x. after_release (one.runs (lean_single x)) gone drops i.long (omega (arith, nodes_code (lean_view side x).second, (lean_view side x).count)) (omega (arith, i.cost)) }

  module _ {m2 : List ℕ} {d : Ref} {n2 : ℕ} (low : y ≤ z) (one : Joins Fit (node_on side) (λ _ _. 37) 0 m1 m2 a p 0 (Some d) n1 n2) where
    abbrev pub lean_last : Two Leaning m a b 16 → Two Fit m2 d.0 q 0
    lean_last x =
        let o = lean_view side x in
        let l = lean_level side x in
        let inner =
        level_inner side x.u o.first (record { first = x.fit.first; second = l.first; low = omega (arith, x.fit.high, o.high, l.high); high = omega (arith, x.fit.high, o.high, i.first x, i.second x) }) in
        record {
          u = node_on side x.u o.first;
          v = o.second;
          rest = x.rest;
          fit = inner_fit (node_on side x.u o.first) o.second inner l.second (omega (arith, x.fit.few, o.long, size_on side x.u o.first));
          have = (one.runs (lean_single x)).have;
          few = omega (arith, x.few);
        }

    pub lean_rotated : {m3 : List ℕ} {f : Option Ref} {n3 : ℕ} → Joins Fit (node_on side) (λ _ _. 37) 0 m2 m3 d.0 q 0 f n2 n3 → length m2 ≡ length m1 → Joins Leaning (rotate_on side) (λ _ _. 135) 1 m m3 a b 16 f n n3
    lean_rotated last long2 =
        record {
          runs = λ x.
              let o = lean_view side x in
              let le : height o.first ≤ height o.second = omega (arith, i.first x, i.second x) in
              after_by (last.runs (lean_last x)) (omega (arith, i.long)) (ap (rotate_on side x.u) o.is ∙ rotate_single side x.u o.first o.second le) (omega (arith, cells_on side x.u o.first, o.count))
              (omega (arith, i.cost, (one.runs (lean_single x)).cost));
        }

-- two parts of which the second may be too high
module _ {m : List ℕ} {a b : ℕ} (x : Two Near m a b 16) where
  pub near_fit : Fit x.u x.v
  near_fit = inner_fit x.u x.v x.fit.first x.fit.second x.fit.few

  abbrev pub near_leaning : height x.u + 1 < height x.v → Two Leaning m a b 16
  near_leaning high =
      record { u = x.u; v = x.v; rest = x.rest; fit = record { first = x.fit.first; second = x.fit.second; high = omega (arith, x.fit.high); few = x.fit.few }; have = x.have; few = x.few }

  module _ {y z : Shape} (is_y : (v : LendsSome m a) → ShapeIs v.lends.rope y) (is_z : (v : LendsSome m b) → ShapeIs v.lends.rope z) where
    pub near_high : y.height + 1 < z.height → height x.u + 1 < height x.v
    near_high more = omega (arith, (is_y (first_some x near_fit)).high, (is_z (second_some x near_fit)).high)

    pub near_low : z.height ≤ y.height + 1 → height x.v ≤ height x.u + 1
    near_low le = omega (arith, (is_y (first_some x near_fit)).high, (is_z (second_some x near_fit)).high)
