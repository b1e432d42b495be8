-- The steps of replacing a part of a rope.
use Rattle.std.proofs.Common.{◌≡◌, ℕ, ◌+◌, ◌*◌, ◌<◌, ◌≤◌, max, List, ◌∷◌, length, Some, None, Option, refl, arith, length-drop, length-take}
use Rattle.cells.specs.declared.cell.Ref.{Ref}
use Rattle.cells.specs.Have.{item, all_nodes}
use Rattle.cells.specs.Steps.{Released}
use Rattle.ropes.specs.Rope.{Rope, bytes, size, height, cells}
use Rattle.ropes.specs.Join.{concat}
use Rattle.ropes.specs.Cut.{front, back, replace}
use Rattle.ropes.proofs.Joins.{concat_ok}
use Rattle.ropes.proofs.Cuts.{size_bytes, size_of, size_concat, bytes_front, bytes_back, front_ok, back_ok}
use Rattle.ropes.proofs.Counts.{cells_concat, cells_cut}
use Rattle.ropes.proofs.Edits.{bytes_replace}
use Rattle.rope_cells.specs.Coded.{code}
use Rattle.rope_cells.proofs.Codes.{nodes_code}
use Rattle.rope.specs.declared.cutting.Cut.{Cut}
use Rattle.rope.specs.Building.{Two, Any, concat_price}
use Rattle.rope.specs.Cutting.{One, Short, Splits}
use Rattle.rope.proofs.Splits.{front_size}
use Rattle.rope_edit.specs.Editing.{Keeps, Follows, Replaces}
use Rattle.rope_edit.proofs.Slices.{front_short, short_low}
use Rattle.rope_edit.proofs.Follows.{opt_swap_behind, concat_short, Pending, pending_few, concat_price_few, pending_after}

-- the parts have the whole's bytes
pub cut_size : (t : Rope) (i : ℕ) → size (front t i) + size (back t i) ≡ size t
cut_size t i =
    omega (arith, size_of (front t i) _ (bytes_front t i), size_of (back t i) _ (bytes_back t i), length-take i (bytes t), length-drop i (bytes t), size_bytes t)

pub any_left : (u v : Rope) → Any u v → Short u
any_left u v f = record { whole = f.left; few = omega (arith, f.few) }

pub any_right : (u v : Rope) → Any u v → Short v
any_right u v f = record { whole = f.right; few = omega (arith, f.few) }

-- what is before the part, with the new rope, and what is behind it
module _ (t : Rope) (a b : ℕ) (new : Rope) (f : Any t new) where
  few_bytes : size (front (front t b) a) + size new + size (back t b) < 536870912
  few_bytes = omega (arith, front_size (front t b) a, cut_size t b, f.few)

  pub start_any : Any (front (front t b) a) new
  start_any = record { left = (front_short (front t b) a (front_short t b (any_left t new f))).whole; right = f.right; few = omega (arith, few_bytes) }

  pub end_any : Any (concat (front (front t b) a) new) (back t b)
  end_any =
      record {
        left = (concat_short (front (front t b) a) new start_any).whole;
        right = (back_ok t b f.left).whole;
        few = omega (arith, few_bytes, size_concat (front (front t b) a) new);
      }

  pub start_price : concat_price (front (front t b) a) new ≤ 52 * max (height t) (height new) + 237
  start_price =
      let p = front_ok t b f.left in
      omega (arith, concat_price_few (front (front t b) a) new, p.high, (front_ok (front t b) a p.whole).high)

  pub end_price : concat_price (concat (front (front t b) a) new) (back t b) ≤ 52 * max (height t) (height new) + 289
  end_price =
      let p = front_ok t b f.left in
      let q = front_ok (front t b) a p.whole in
      let s = concat_ok (front (front t b) a) new q.whole f.right in
      omega (arith, concat_price_few (concat (front (front t b) a) new) (back t b), p.high, q.high, s.high, (back_ok t b f.left).high)

  pub replace_short : Short (replace t a b new)
  unfolding replace
  replace_short = concat_short (concat (front (front t b) a) new) (back t b) end_any

module _ (a b : ℕ) {m : List ℕ} {p q : ℕ} where
  abbrev pub replaces_one : Two Any m p q 200 → One Short m p 160
  replaces_one x =
      let s = any_left x.u x.v x.fit in
      record { t = x.u; rest = item q (code x.v) ∷ x.rest; fit = s; have = x.have; few = omega (arith, x.few, short_low x.u s) }

  module _ {m1 : List ℕ} (long1 : length m1 ≡ length m) {n n1 : ℕ} where
    -- the rope could not be cut
    module _ (cut : Splits b m m1 p None n n1) where
      pub replaces_none : {m2 : List ℕ} {n2 : ℕ} → Released m1 m2 q → n2 ≤ n1 + 5 → Replaces a b m m2 p q None n n2
      replaces_none gone drops =
          record {
            runs = λ x.
                let o = cut.runs (replaces_one x) in
                record {
                  have = gone.have (code x.v) x.rest o.have;
                  full = λ _. omega (arith, o.full refl, nodes_code x.v);
                  cost = omega (arith, o.cost, (front_ok x.u b x.fit.left).high, (back_ok x.u b x.fit.left).high);
                };
            short = λ x. replace_short x.u a b x.v x.fit;
            text = λ x. bytes_replace x.u a b x.v;
          }

    module _ {c : Cut} (cut : Splits b m m1 p (Some c) n n1) where
      abbrev pub front_cut : Two Any m p q 200 → One Short m1 c.front.0 160
      front_cut x =
          let s = front_short x.u b (any_left x.u x.v x.fit) in
          record {
            t = front x.u b;
            rest = item c.back.0 (code (back x.u b)) ∷ (item q (code x.v) ∷ x.rest);
            fit = s;
            have = (cut.runs (replaces_one x)).have;
            few = omega (arith, x.few, short_low (front x.u b) s);
          }

      module _ {m2 : List ℕ} {d2 : Option Ref} {n2 : ℕ} (keeps : Keeps front a m1 m2 c.front.0 d2 n1 n2) (long2 : length m2 ≡ length m1) where
        abbrev pub start_pending : Two Any m p q 200 → Pending m2 d2 q
        start_pending x =
            let o = keeps.runs (front_cut x) in
            let cut_cells = cells_cut x.u b in
            record {
              u = front (front x.u b) a;
              v = x.v;
              rest = item c.back.0 (code (back x.u b)) ∷ x.rest;
              most = cells x.u + cells x.v + all_nodes x.rest + 4;
              fit = start_any x.u a b x.v x.fit;
              have = opt_swap_behind m2 d2 _ _ _ _ o.have;
              no_first = λ e. omega (arith, o.full e, cut_cells, nodes_code (back x.u b), nodes_code x.v);
              fits = omega (arith, cut_cells, cells_cut (front x.u b) a, nodes_code (back x.u b));
              few = omega (arith, x.few);
            }

        module _ (m3 : List ℕ) (d3 : Option Ref) (n3 : ℕ) (start : Follows m2 m3 d2 q d3 n2 n3) (long3 : length m3 ≡ length m2) where
          abbrev pub end_pending : Two Any m p q 200 → Pending m3 d3 c.back.0
          end_pending x =
              let o = pending_after _ _ _ _ _ _ _ start (start_pending x) in
              record {
                u = concat (front (front x.u b) a) x.v;
                v = back x.u b;
                rest = x.rest;
                most = cells x.u + cells x.v + all_nodes x.rest + 4;
                fit = end_any x.u a b x.v x.fit;
                have = o.have;
                no_first = λ e. omega (arith, o.full e);
                fits = omega (arith, cells_cut x.u b, cells_cut (front x.u b) a, cells_concat (front (front x.u b) a) x.v);
                few = omega (arith, x.few);
              }

          pub replaces_some : (m4 : List ℕ) (d : Option Ref) (n4 : ℕ) → Follows m3 m4 d3 c.back.0 d n3 n4 → length m4 ≡ length m3 → Replaces a b m m4 p q d n n4
          unfolding replace
          replaces_some m4 d n4 last long4 =
              record {
                runs = λ x.
                    let cost1 = (cut.runs (replaces_one x)).cost in
                    let cost2 = (keeps.runs (front_cut x)).cost in
                    let cost3 = (pending_after _ _ _ _ _ _ _ start (start_pending x)).cost in
                    let o = pending_after _ _ _ _ _ _ _ last (end_pending x) in
                    let ff = front (front x.u b) a in
                    record {
                      have = o.have;
                      full = λ e. omega (arith, o.full e);
                      cost = omega (
                        arith,
                        o.cost,
                        pending_few d2 ff x.v,
                        pending_few d3 (concat ff x.v) (back x.u b),
                        start_price x.u a b x.v x.fit,
                        end_price x.u a b x.v x.fit,
                        (front_ok x.u b x.fit.left).high,
                        (back_ok x.u b x.fit.left).high,
                      );
                    };
                short = λ x. replace_short x.u a b x.v x.fit;
                text = λ x. bytes_replace x.u a b x.v;
              }

-- no rope is higher than 35
pub replaces_quick : {a b : ℕ} {m m' : List ℕ} {p q : ℕ} (d : Option Ref) {n n' : ℕ} → Two Any m p q 200 → Replaces a b m m' p q d n n' → n' ≤ n + 30000
replaces_quick None x s = omega (arith, (s.runs x).cost, short_low x.u (any_left _ _ x.fit), short_low x.v (any_right _ _ x.fit))
replaces_quick (Some d) x s = omega (arith, (s.runs x).cost, short_low x.u (any_left _ _ x.fit), short_low x.v (any_right _ _ x.fit))
