-- The steps of repeating a rope.
use Rattle.std.proofs.Common.{◌≡◌, ℕ, zero, suc, ◌+◌, ◌*◌, ◌/◌, ◌%◌, ◌^◌, ◌<◌, ◌≤◌, ◌≢◌, IfNone, List, ◌∷◌, length, Some, None, Option, sym, refl, ap, subst, suc-mul, mul-le-mul_left, arith}
use Rattle.std.proofs.lemmas.Bool.{ne_eqb, cond-false}
use Rattle.cells.specs.declared.cell.Ref.{Ref}
use Rattle.cells.specs.Have.{item, Have, opt}
use Rattle.cells.specs.Steps.{Sharing, Shared, Holding, Released}
use Rattle.cells.proofs.Held.{lend}
use Rattle.ropes.specs.Rope.{Rope, empty, size, height, cells, Whole}
use Rattle.ropes.specs.Join.{concat}
use Rattle.ropes.specs.Cut.{repeat_onto}
use Rattle.ropes.proofs.Joins.{concat_ok}
use Rattle.ropes.proofs.Cuts.{size_concat}
use Rattle.ropes.proofs.Depths.{cells_few}
use Rattle.ropes.proofs.Descents.{concat_steps_few}
use Rattle.rope_cells.specs.Coded.{code}
use Rattle.rope_cells.proofs.Codes.{nodes_code}
use Rattle.rope.specs.Building.{After, Two, Joins, Any, concat_price}
use Rattle.rope.specs.Cutting.{One}
use Rattle.rope.proofs.Holds.{swap_have, none_held}
use Rattle.rope.proofs.Makings.{some_none}
use Rattle.rope.proofs.Splits.{add_none}
use Rattle.rope_edit.specs.Editing.{Copied, copied_most, odd_onto, Adds, Twice, Doubles, Repeats, Times, Repeated}
use Rattle.rope_edit.proofs.Slices.{short_low}
use Rattle.rope_edit.proofs.Follows.{concat_price_few}
use Rattle.rope_edit.proofs.Copies.{two_few, one_few, odd_size, odd_whole, halved, repeat_none, repeat_one, repeat_more, repeat_high, repeat_bytes, repeat_short}

-- cells of parts of the result
cells_within : (u v w : Rope) (s : ℕ) → Whole u → Whole v → Whole w → size u + size v + size w ≤ s → cells u + cells v + cells w ≤ s / 12 + 3
cells_within u v w s wu wv ww h = omega (arith, cells_few u wu, cells_few v wv, cells_few w ww)

-- once more where the count is odd
module _ {m : List ℕ} {l r : ℕ} where
  pub odd_sharing : Two Any m l r 200 → Sharing m r
  odd_sharing x =
      record {
        rest = item l (code x.u) ∷ (item r (code x.v) ∷ x.rest);
        tree = code x.v;
        have = x.have;
        lent = lend m r (code x.v) _ (swap_have m _ _ _ x.have);
        few = omega (arith, x.few);
      }

  module _ {m1 : List ℕ} (shared : Shared m m1 r) (long1 : length m1 ≡ length m) (k : ℕ) {k1 : ℕ} (cost1 : k1 ≤ k + 2) where
    abbrev pub odd_two : Two Any m l r 200 → Two Any m1 l r 128
    odd_two x =
        record {
          u = x.u;
          v = x.v;
          rest = item r (code x.v) ∷ x.rest;
          fit = x.fit;
          have = swap_have m1 _ _ _ (shared.have (code x.v) _ (lend m r (code x.v) _ (swap_have m _ _ _ x.have)) x.have);
          few = omega (arith, x.few);
        }

    pub adds_once : {n : ℕ} {m2 : List ℕ} {d : Option Ref} {k2 : ℕ} → n % 2 ≢ 0 → Joins Any concat concat_price 1 m1 m2 l r 128 d k1 k2 → Adds n m m2 l r d k k2
    adds_once {n} {m2} {d} odd last =
        record {
          runs = λ x.
              let o = last.runs (odd_two x) in
              let is : odd_onto n x.u x.v ≡ concat x.u x.v = cond-false _ _ _ (ne_eqb (n % 2) 0 odd) in
              record {
                have = subst (λ t. Have m2 (opt d (code t) (item r (code x.v) ∷ x.rest))) (sym is) o.have;
                full = λ e. omega (arith, o.full e, nodes_code x.v);
                cost = omega (arith, o.cost);
              };
        }

-- a rope twice
module _ {m : List ℕ} {p : ℕ} where
  pub twice_sharing : One Twice m p 160 → Sharing m p
  twice_sharing x =
      record { rest = item p (code x.t) ∷ x.rest; tree = code x.t; have = x.have; lent = lend m p (code x.t) _ x.have; few = omega (arith, x.few) }

  module _ {m1 : List ℕ} (shared : Shared m m1 p) (long1 : length m1 ≡ length m) (k : ℕ) {k1 : ℕ} (cost1 : k1 ≤ k + 2) where
    abbrev pub twice_two : One Twice m p 160 → Two Any m1 p p 128
    twice_two x =
        record {
          u = x.t;
          v = x.t;
          rest = x.rest;
          fit = record { left = x.fit.whole; right = x.fit.whole; few = x.fit.few };
          have = swap_have m1 _ _ _ (shared.have (code x.t) _ (lend m p (code x.t) _ x.have) x.have);
          few = omega (arith, x.few);
        }

    pub doubles : {m2 : List ℕ} {d : Option Ref} {k2 : ℕ} → Joins Any concat concat_price 1 m1 m2 p p 128 d k1 k2 → Doubles m m2 p d k k2
    doubles last =
        record {
          runs = λ x.
              let o = last.runs (twice_two x) in
              record { have = o.have; full = λ e. omega (arith, o.full e); cost = omega (arith, o.cost, concat_steps_few x.t x.t) };
        }

-- no time
module _ {n : ℕ} (none : n ≡ 0) {m : List ℕ} {l : Ref} {r : ℕ} where
  pub none_holding : Two (Copied n) m l.0 r 200 → Holding m r
  none_holding x = record { tree = code x.v; rest = item l.0 (code x.u) ∷ x.rest; have = swap_have m _ _ _ x.have }

  pub repeats_none : {m1 : List ℕ} {k k1 : ℕ} → Released m m1 r → k1 ≤ k + 5 → Repeats n m m1 l.0 r (Some l) k k1
  repeats_none {m1} gone drops =
      record {
        runs = λ x steps fits.
            let is = repeat_none steps x.u x.v n none in
            record {
              have = subst (λ t. Have m1 (item l.0 (code t) ∷ x.rest)) (sym is) (gone.have (code x.v) _ (swap_have m _ _ _ x.have));
              full = λ e. absurd (some_none _ e);
              cost = omega arith;
            };
      }

-- once
module _ {n : ℕ} (one : n ≡ 1) {m : List ℕ} {l r : ℕ} where
  abbrev pub once_two : Two (Copied n) m l r 200 → Two Any m l r 128
  once_two x =
      record {
        u = x.u;
        v = x.v;
        rest = x.rest;
        fit = record { left = x.fit.left; right = x.fit.right; few = omega (arith, x.fit.few, one_few n (size x.v) one) };
        have = x.have;
        few = omega (arith, x.few);
      }

  module _ {m1 : List ℕ} {d : Option Ref} {k k1 : ℕ} (last : Joins Any concat concat_price 1 m m1 l r 128 d k k1) where
    once : (x : Two (Copied n) m l r 200) (steps : ℕ) → n < 2 ^ steps
        → After m m1 d (repeat_onto steps x.u x.v n) x.rest (copied_most n x.u x.v x.rest) k1 (k + (steps * (52 * height (repeat_onto steps x.u x.v n) + 480) + 5))
    once x zero fits = absurd (omega arith)
    once x (suc steps) fits =
        let o = last.runs (once_two x) in
        let is = repeat_one steps x.u x.v n one in
        let h = 52 * height (repeat_onto (suc steps) x.u x.v n) + 480 in
        record {
          have = subst (λ t. Have m1 (opt d (code t) x.rest)) (sym is) o.have;
          full = λ e. omega (arith, o.full e, cells_within x.u x.v empty (size x.u + n * size x.v) x.fit.left x.fit.right tt (omega (arith, one_few n (size x.v) one)));
          cost = omega (arith, o.cost, concat_price_few x.u x.v, repeat_high (suc steps) x.u x.v n x.fit.left x.fit.right (omega arith) fits, suc-mul steps h);
        }

    pub repeats_once : Repeats n m m1 l r d k k1
    repeats_once = record { runs = once }

-- more often
abbrev Done : (n : ℕ) (m m2 : List ℕ) (l r : ℕ) (d : Option Ref) (k k2 : ℕ) → Type 0
Done n m m2 l r d k k2 = (x : Two (Copied n) m l r 200) (steps : ℕ) → n < 2 ^ steps
    → After m m2 d (repeat_onto steps x.u x.v n) x.rest (copied_most n x.u x.v x.rest) k2 (k + (steps * (52 * height (repeat_onto steps x.u x.v n) + 480) + 5))

module _ {n : ℕ} (many : 2 ≤ n) {m : List ℕ} {l r : ℕ} where
  abbrev pub many_two : Two (Copied n) m l r 200 → Two Any m l r 200
  many_two x =
      record {
        u = x.u;
        v = x.v;
        rest = x.rest;
        fit = record { left = x.fit.left; right = x.fit.right; few = omega (arith, x.fit.few, two_few n (size x.v) many) };
        have = x.have;
        few = x.few;
      }

  module _ {m1 : List ℕ} (long1 : length m1 ≡ length m) {k k1 : ℕ} where
    module _ (adds : Adds n m m1 l r None k k1) where
      no_add : {m2 : List ℕ} {k2 : ℕ} → Released m1 m2 r → k2 ≤ k1 + 5 → Done n m m2 l r None k k2
      no_add gone drops x zero fits = absurd (omega arith)
      no_add gone drops x (suc steps) fits =
          let o = adds.runs (many_two x) in
          let h = 52 * height (repeat_onto (suc steps) x.u x.v n) + 480 in
          let within = cells_within x.u x.v x.v (size x.u + n * size x.v) x.fit.left x.fit.right x.fit.right (omega (arith, two_few n (size x.v) many)) in
          record {
            have = gone.have (code x.v) _ o.have;
            full = λ _. omega (arith, o.full refl, within);
            cost = omega (arith, o.cost, concat_price_few x.u x.v, repeat_high (suc steps) x.u x.v n x.fit.left x.fit.right (omega arith) fits, suc-mul steps h);
          }

      pub repeats_no_add : {m2 : List ℕ} {k2 : ℕ} → Released m1 m2 r → k2 ≤ k1 + 5 → Repeats n m m2 l r None k k2
      repeats_no_add gone drops = record { runs = no_add gone drops }

    module _ {s : Ref} (adds : Adds n m m1 l r (Some s) k k1) where
      pub start_size : (x : Two (Copied n) m l r 200) → size (odd_onto n x.u x.v) + n / 2 * size (concat x.v x.v) ≡ size x.u + n * size x.v
      start_size x = odd_size n x.u x.v

      pub bytes_left : (x : Two (Copied n) m l r 200) → size (odd_onto n x.u x.v) + (size x.v + size x.v) ≤ size x.u + n * size x.v
      bytes_left x =
          let some : 1 ≤ n / 2 = omega arith in
          let t = size (concat x.v x.v) in
          let j : t * 1 ≤ t * (n / 2) = mul-le-mul_left t some in
          omega (arith, start_size x, size_concat x.v x.v)

      abbrev pub add_one : Two (Copied n) m l r 200 → One Twice m1 r 160
      add_one x =
          let few : size x.v + size x.v < 536870912 = omega (arith, bytes_left x, x.fit.few) in
          record {
            t = x.v;
            rest = item s.0 (code (odd_onto n x.u x.v)) ∷ x.rest;
            fit = record { whole = x.fit.right; few = few };
            have = swap_have m1 _ _ _ (adds.runs (many_two x)).have;
            few = omega (arith, x.few, short_low x.v (record { whole = x.fit.right; few = omega (arith, few) }));
          }

      pub start_held : {d : Option Ref} {m2 : List ℕ} {k2 : ℕ} → Doubles m1 m2 r d k1 k2 → Two (Copied n) m l r 200 → IfNone d (Holding m2 s.0)
      start_held dbl x = none_held (dbl.runs (add_one x))

      module _ {m2 : List ℕ} (long2 : length m2 ≡ length m1) {k2 : ℕ} where
        module _ (dbl : Doubles m1 m2 r None k1 k2) where
          no_double : {m3 : List ℕ} {k3 : ℕ} → Released m2 m3 s.0 → k3 ≤ k2 + 5 → Done n m m3 l r None k k3
          no_double gone drops x zero fits = absurd (omega arith)
          no_double gone drops x (suc steps) fits =
              let o = adds.runs (many_two x) in
              let q = dbl.runs (add_one x) in
              let start = odd_onto n x.u x.v in
              let h = 52 * height (repeat_onto (suc steps) x.u x.v n) + 480 in
              let within = cells_within start x.v x.v (size x.u + n * size x.v) (odd_whole n x.u x.v x.fit.left x.fit.right) x.fit.right x.fit.right (omega (arith, bytes_left x)) in
              record {
                have = gone.have (code start) _ q.have;
                full = λ _. omega (arith, q.full refl, within, nodes_code start);
                cost = omega (arith, o.cost, q.cost, concat_price_few x.u x.v, repeat_high (suc steps) x.u x.v n x.fit.left x.fit.right (omega arith) fits, suc-mul steps h);
              }

          pub repeats_no_double : {m3 : List ℕ} {k3 : ℕ} → Released m2 m3 s.0 → k3 ≤ k2 + 5 → Repeats n m m3 l r None k k3
          repeats_no_double gone drops = record { runs = no_double gone drops }

        module _ {w : Ref} (dbl : Doubles m1 m2 r (Some w) k1 k2) where
          abbrev pub half_two : Two (Copied n) m l r 200 → Two (Copied (n / 2)) m2 s.0 w.0 200
          half_two x =
              record {
                u = odd_onto n x.u x.v;
                v = concat x.v x.v;
                rest = x.rest;
                fit = record {
                  left = odd_whole n x.u x.v x.fit.left x.fit.right;
                  right = (concat_ok x.v x.v x.fit.right x.fit.right).whole;
                  few = omega (arith, start_size x, x.fit.few);
                };
                have = swap_have m2 _ _ _ (dbl.runs (add_one x)).have;
                few = x.few;
              }

          module _ {m3 : List ℕ} {d : Option Ref} {k3 : ℕ} (last : Repeats (n / 2) m2 m3 s.0 w.0 d k2 k3) where
            half : Done n m m3 l r d k k3
            half x zero fits = absurd (omega arith)
            half x (suc steps) fits =
                let o = last.runs (half_two x) steps (halved n steps fits) in
                let is : repeat_onto (suc steps) x.u x.v n ≡ repeat_onto steps (odd_onto n x.u x.v) (concat x.v x.v) (n / 2) = repeat_more steps x.u x.v n many in
                let h = 52 * height (repeat_onto (suc steps) x.u x.v n) + 480 in
                record {
                  have = subst (λ t. Have m3 (opt d (code t) x.rest)) (sym is) o.have;
                  full = λ e. omega (arith, o.full e, ap (λ z. z / 12) (start_size x));
                  cost = omega (
                    arith,
                    o.cost,
                    (adds.runs (many_two x)).cost,
                    (dbl.runs (add_one x)).cost,
                    concat_price_few x.u x.v,
                    repeat_high (suc steps) x.u x.v n x.fit.left x.fit.right (omega arith) fits,
                    suc-mul steps h,
                    ap (λ t. steps * (52 * height t + 480)) is,
                  );
                }

            pub repeats_half : Repeats n m m3 l r d k k3
            repeats_half = record { runs = half }

-- from nothing on
module _ {n : ℕ} {m : List ℕ} {p : ℕ} where
  abbrev pub times_two : One (Times n) m p 200 → Two (Copied n) m 0 p 200
  times_two x =
      record {
        u = empty;
        v = x.t;
        rest = x.rest;
        fit = record { left = tt; right = x.fit.whole; few = omega (arith, x.fit.few) };
        have = add_none m 0 _ refl x.have;
        few = omega (arith, x.few);
      }

  module _ {m1 : List ℕ} {d : Option Ref} {k k1 : ℕ} (all : Repeats n m m1 0 p d k k1) where
    pub repeated : Repeated n m m1 p d k k1
    repeated =
        record {
          runs = λ x steps fits. let o = all.runs (times_two x) steps fits in record { have = o.have; full = λ e. omega (arith, o.full e); cost = o.cost };
          short = λ x steps fits. repeat_short steps x.t n fits x.fit.whole x.fit.few;
          text = λ x steps fits. repeat_bytes steps x.t n fits;
        }

-- no rope is higher than 35, and 32 steps are enough for any number of the machine
pub repeated_quick : {n : ℕ} {m : List ℕ} {p : ℕ} {m1 : List ℕ} (d : Option Ref) {k k1 : ℕ} → n < 2 ^ 32 → One (Times n) m p 200 → Repeated n m m1 p d k k1 → k1 ≤ k + 75000
repeated_quick None fits x s = omega (arith, (s.runs x 32 fits).cost, short_low _ (s.short x 32 fits))
repeated_quick (Some d) fits x s = omega (arith, (s.runs x 32 fits).cost, short_low _ (s.short x 32 fits))
