-- The steps of taking a part of a rope.
use Rattle.std.proofs.Common.{◌≡◌, ℕ, ◌+◌, ◌*◌, ◌<◌, ◌≤◌, List, ◌∷◌, length, Some, None, Option, refl, arith}
use Rattle.cells.specs.declared.cell.Ref.{Ref}
use Rattle.cells.specs.Tree.{Tree}
use Rattle.cells.specs.Have.{Item, item, Have, Lent, opt}
use Rattle.cells.specs.Steps.{Sharing, Shared, Holding, Released}
use Rattle.cells.proofs.Held.{lend}
use Rattle.ropes.specs.Rope.{Rope, height}
use Rattle.ropes.specs.Cut.{front, back, slice}
use Rattle.ropes.proofs.Cuts.{front_ok, back_ok}
use Rattle.ropes.proofs.Counts.{cells_cut}
use Rattle.ropes.proofs.Depths.{height_low}
use Rattle.ropes.proofs.Edits.{bytes_slice}
use Rattle.rope_cells.specs.Coded.{code}
use Rattle.rope.specs.declared.cutting.Cut.{Cut}
use Rattle.rope.specs.Cutting.{One, Short, cut_price, Splits}
use Rattle.rope.proofs.Holds.{swap_have, opt_next}
use Rattle.rope.proofs.Makings.{some_none}
use Rattle.rope.proofs.Splits.{part_size, front_size}
use Rattle.rope_edit.specs.Editing.{Lend, Keeps, Slices}

pub front_short : (t : Rope) (at : ℕ) → Short t → Short (front t at)
front_short t at s = record { whole = (front_ok t at s.whole).whole; few = omega (arith, front_size t at, s.few) }

pub back_short : (t : Rope) (at : ℕ) → Short t → Short (back t at)
back_short t at s = record { whole = (back_ok t at s.whole).whole; few = omega (arith, part_size t at, s.few) }

pub short_low : (t : Rope) → Short t → height t < 36
short_low t s = height_low t s.whole s.few

-- neither part is higher
pub cut_price_few : (t : Rope) (at : ℕ) → Short t → cut_price at t ≤ 354 * height t
cut_price_few t at s = omega (arith, (front_ok t at s.whole).high, (back_ok t at s.whole).high)

-- one part of a rope that was cut
module _ {at : ℕ} {m : List ℕ} {p : ℕ} {m1 : List ℕ} {n n1 : ℕ} where
  module _ {c : Cut} (cut : Splits at m m1 p (Some c) n n1) where
    pub back_holding : One Short m p 160 → Holding m1 c.back.0
    back_holding x = record { tree = code (back x.t at); rest = item c.front.0 (code (front x.t at)) ∷ x.rest; have = swap_have m1 _ _ _ (cut.runs x).have }

    pub front_holding : One Short m p 160 → Holding m1 c.front.0
    front_holding x = record { tree = code (front x.t at); rest = item c.back.0 (code (back x.t at)) ∷ x.rest; have = (cut.runs x).have }

    pub keeps_front : {m2 : List ℕ} {n2 : ℕ} → n2 ≤ n1 + 5 → Released m1 m2 c.back.0 → Keeps front at m m2 p (Some c.front) n n2
    keeps_front {m2} drops gone =
        record {
          runs = λ x.
              let o = cut.runs x in
              record {
                have = gone.have (code (back x.t at)) _ (swap_have m1 _ _ _ o.have);
                full = λ e. absurd (some_none _ e);
                cost = omega (arith, o.cost, cut_price_few x.t at x.fit);
              };
        }

    pub keeps_back : {m2 : List ℕ} {n2 : ℕ} → n2 ≤ n1 + 5 → Released m1 m2 c.front.0 → Keeps back at m m2 p (Some c.back) n n2
    keeps_back {m2} drops gone =
        record {
          runs = λ x.
              let o = cut.runs x in
              record {
                have = gone.have (code (front x.t at)) _ o.have;
                full = λ e. absurd (some_none _ e);
                cost = omega (arith, o.cost, cut_price_few x.t at x.fit);
              };
        }

  pub keeps_none : (part : Rope → ℕ → Rope) → Splits at m m1 p None n n1 → Keeps part at m m1 p None n n1
  keeps_none part cut =
      record { runs = λ x. let o = cut.runs x in record { have = o.have; full = λ _. o.full refl; cost = omega (arith, o.cost, cut_price_few x.t at x.fit) } }

pub slice_short : (t : Rope) (a b : ℕ) → Short t → Short (slice t a b)
unfolding slice
slice_short t a b s = back_short (front t b) a (front_short t b s)

-- a part of a rope that is lent
module _ (a b : ℕ) {m : List ℕ} {p : ℕ} where
  pub lend_sharing : Lend m p → Sharing m p
  lend_sharing x = record { rest = x.rest; tree = code x.t; have = x.have; lent = x.lent; few = omega (arith, x.few) }

  module _ {m1 : List ℕ} (shared : Shared m m1 p) (long1 : length m1 ≡ length m) (n : ℕ) {n1 : ℕ} (cost1 : n1 ≤ n + 2) where
    abbrev pub lend_one : Lend m p → One Short m1 p 160
    lend_one x =
        record { t = x.t; rest = x.rest; fit = x.fit; have = shared.have (code x.t) x.rest x.lent x.have; few = omega (arith, x.few, short_low x.t x.fit) }

    module _ {m2 : List ℕ} (long2 : length m2 ≡ length m1) {n2 : ℕ} where
      pub slices_none : Keeps front b m1 m2 p None n1 n2 → Slices a b m m2 p None n n2
      slices_none first =
          record {
            runs = λ x.
                let o = first.runs (lend_one x) in
                record { have = o.have; full = λ _. omega (arith, o.full refl); cost = omega (arith, o.cost) };
            short = λ x. slice_short x.t a b x.fit;
            text = λ x. bytes_slice x.t a b;
          }

      module _ {f : Ref} (first : Keeps front b m1 m2 p (Some f) n1 n2) where
        abbrev pub front_one : Lend m p → One Short m2 f.0 160
        front_one x =
            let s = front_short x.t b x.fit in
            record { t = front x.t b; rest = x.rest; fit = s; have = (first.runs (lend_one x)).have; few = omega (arith, x.few, short_low (front x.t b) s) }

        pub slices_some : {m3 : List ℕ} {d : Option Ref} {n3 : ℕ} → Keeps back a m2 m3 f.0 d n2 n3 → Slices a b m m3 p d n n3
        unfolding slice
        slices_some last =
            record {
              runs = λ x.
                  let o = last.runs (front_one x) in
                  let f1 = first.runs (lend_one x) in
                  record {
                    have = o.have;
                    full = λ e. omega (arith, o.full e, cells_cut x.t b);
                    cost = omega (arith, o.cost, f1.cost, (front_ok x.t b x.fit.whole).high);
                  };
              short = λ x. slice_short x.t a b x.fit;
              text = λ x. bytes_slice x.t a b;
            }

-- no rope is higher than 35
pub slices_quick : {a b : ℕ} {m m' : List ℕ} {p : ℕ} (d : Option Ref) {n n' : ℕ} → Lend m p → Slices a b m m' p d n n' → n' ≤ n + 25000
slices_quick None x s = omega (arith, (s.runs x).cost, short_low x.t x.fit)
slices_quick (Some d) x s = omega (arith, (s.runs x).cost, short_low x.t x.fit)

-- what is held beside a new rope is lent still
pub still_lent : (m : List ℕ) (d : Option Ref) (t : Tree) (p : ℕ) (v : Tree) (xs : List Item) → Have m (opt d t (item p v ∷ xs)) → Lent m p v
still_lent m d t p v xs h = lend m p v _ (opt_next m d t _ _ h)
