-- The steps of making a rope of given bytes.
use Rattle.std.proofs.Common.{◌≡◌, ℕ, ◌+◌, ◌-◌, ◌*◌, ◌/◌, ◌<◌, ◌≤◌, List, ◌∷◌, length, take, drop, Some, None, Option, sym, refl, ap, ◌∙◌, subst, arith, length-drop, length-take}
use Rattle.cells.specs.declared.cell.Ref.{Ref}
use Rattle.cells.specs.Have.{item, Have, opt, all_nodes}
use Rattle.cells.specs.Steps.{Released}
use Rattle.ropes.specs.Rope.{Rope, empty, leaf, size, height, cells, Octets}
use Rattle.ropes.specs.Rope.{node as node_of}
use Rattle.ropes.specs.Build.{left_share, from_bytes}
use Rattle.ropes.proofs.Builds.{bytes_from_bytes, from_bytes_whole}
use Rattle.ropes.proofs.Cuts.{size_of}
use Rattle.rope_cells.specs.Coded.{code}
use Rattle.rope_cells.proofs.Codes.{nodes_code}
use Rattle.rope.specs.Building.{After, Two, Joins, Fit, Free, Leafed}
use Rattle.rope.specs.Cutting.{Short}
use Rattle.rope.proofs.Holds.{swap_have}
use Rattle.rope.proofs.Makings.{some_none}
use Rattle.rope.proofs.Splits.{add_none}
use Rattle.rope_edit.specs.Editing.{Builds}
use Rattle.rope_edit.proofs.Shares.{fills, share_ok, from_none, from_leaf, from_node}

pub size_from : (b : List ℕ) → size (from_bytes b) ≡ length b
size_from b = size_of (from_bytes b) b (bytes_from_bytes b)

pub from_short : (b : List ℕ) → Octets b → length b < 536870912 → Short (from_bytes b)
from_short b o few = record { whole = from_bytes_whole b o few; few = omega (arith, size_from b) }

pub some_bytes : (t : Rope) → 1 ≤ size t → 1 ≤ height t
some_bytes empty h = absurd (omega arith)
some_bytes (leaf b) h = omega arith
some_bytes (node_of l r) h = omega arith

-- what a call owes besides the bytes
abbrev pub Runs : (m m' b : List ℕ) (d : Option Ref) (n n' : ℕ) → Type 0
Runs m m' b d n n' = (x : Free m (length b)) → After m m' d (from_bytes b) x.rest (cells (from_bytes b) + all_nodes x.rest) n' (n + (68 * ((length b + 47) / 48) - 37))

pub builds : {m m' b : List ℕ} {d : Option Ref} {n n' : ℕ} → Octets b → length b < 536870912 → Runs m m' b d n n' → Builds m m' b d n n'
builds {b = b} o few runs = record { runs = runs; short = from_short b o few; text = bytes_from_bytes b }

pub builds_none : (m b : List ℕ) (z : Ref) (n : ℕ) → z.0 ≡ 0 → length b ≡ 0 → Runs m m b (Some z) n n
builds_none m b z n is_z none x =
    let is = from_none b none in
    record {
      have = subst (λ t. Have m (item z.0 (code t) ∷ x.rest)) (sym is) (add_none m z.0 _ is_z x.have);
      full = λ e. absurd (some_none _ e);
      cost = omega arith;
    }

pub free_leaf : {m : List ℕ} {n : ℕ} → Free m n → Free m 0
free_leaf x = record { rest = x.rest; have = x.have; few = omega (arith, x.few) }

pub builds_leaf : {m m' b : List ℕ} {d : Option Ref} {n n' : ℕ} → 1 ≤ length b → length b ≤ 48 → Leafed m m' b d n n' → Runs m m' b d n n'
builds_leaf {m' = m'} {b = b} {d = d} some few made x =
    let is = from_leaf b some few in
    let o = made.runs (record { rest = x.rest; have = x.have; few = omega (arith, x.few) }) in
    let one : fills (length b) ≡ 1 = omega arith in
    record {
      have = subst (λ t. Have m' (opt d (code t) x.rest)) (sym is) o.have;
      full = λ e. omega (arith, o.full e);
      cost = omega (arith, o.cost, one);
    }

-- more bytes than a leaf has, and both shares of them
pub record Parted (b f k : List ℕ) : Type 0 where
  pub more : 48 < length b
  pub few : length b < 536870912
  pub front : f ≡ take (left_share (length b)) b
  pub back : k ≡ drop (left_share (length b)) b

pub parted : {b f k : List ℕ} {share : ℕ} → 48 < length b → length b < 536870912 → share ≡ left_share (length b) → f ≡ take share b → k ≡ drop share b → Parted b f k
parted {b} more few is front back = record { more = more; few = few; front = front ∙ ap (λ z. take z b) is; back = back ∙ ap (λ z. drop z b) is }

module _ {b f k : List ℕ} (s : Parted b f k) where
  pub shares : (24 ≤ length f) × (24 ≤ length k) × (length f + length k ≡ length b) × (fills (length f) + fills (length k) ≡ fills (length b))
  shares =
      let n = length b in
      let o = share_ok n s.more in
      let lf : length f ≡ left_share n = omega (arith, ap length s.front, length-take (left_share n) b, o.rest) in
      let lk : length k ≡ n - left_share n = omega (arith, ap length s.back, length-drop (left_share n) b) in
      (omega (arith, o.some), omega (arith, o.rest), omega (arith, o.rest), omega (arith, o.left, o.right, ap fills lf, ap fills lk))

  pub is_node : from_bytes b ≡ node_of (from_bytes f) (from_bytes k)
  is_node = from_node b f k s.front s.back s.more s.few

  abbrev pub free_front : {m : List ℕ} → Free m (length b) → Free m (length f)
  free_front x = record { rest = x.rest; have = x.have; few = omega (arith, x.few, shares.2) }

  module _ {m m1 : List ℕ} (long1 : length m1 ≡ length m) {n n1 : ℕ} where
    pub builds_no_front : Builds m m1 f None n n1 → Runs m m1 b None n n1
    builds_no_front first x =
        let o = first.runs (free_front x) in
        record { have = o.have; full = λ _. omega (arith, o.full refl, ap cells is_node); cost = omega (arith, o.cost, shares.3) }

    module _ {p : Ref} (first : Builds m m1 f (Some p) n n1) where
      abbrev pub free_back : Free m (length b) → Free m1 (length k)
      free_back x = record { rest = item p.0 (code (from_bytes f)) ∷ x.rest; have = (first.runs (free_front x)).have; few = omega (arith, x.few, shares.0, shares.2) }

      module _ {m2 : List ℕ} (long2 : length m2 ≡ length m1) {n2 : ℕ} where
        module _ (second : Builds m1 m2 k None n1 n2) where
          pub builds_no_back : {m3 : List ℕ} {n3 : ℕ} → Released m2 m3 p.0 → n3 ≤ n2 + 5 → Runs m m3 b None n n3
          builds_no_back gone drops x =
              let o = first.runs (free_front x) in
              let q = second.runs (free_back x) in
              record {
                have = gone.have (code (from_bytes f)) x.rest q.have;
                full = λ _. omega (arith, q.full refl, ap cells is_node, nodes_code (from_bytes f));
                cost = omega (arith, o.cost, q.cost, shares.3, shares.0, shares.1);
              }

        module _ {q : Ref} (second : Builds m1 m2 k (Some q) n1 n2) where
          abbrev pub both_two : Free m (length b) → Two Fit m2 p.0 q.0 0
          both_two x =
              record {
                u = from_bytes f;
                v = from_bytes k;
                rest = x.rest;
                fit = record {
                  left = first.short.whole;
                  right = second.short.whole;
                  some_left = some_bytes (from_bytes f) (omega (arith, size_from f, shares.0));
                  some_right = some_bytes (from_bytes k) (omega (arith, size_from k, shares.1));
                  few = omega (arith, size_from f, size_from k, shares.2, s.few);
                };
                have = swap_have m2 _ _ _ (second.runs (free_back x)).have;
                few = omega (arith, x.few);
              }

          pub builds_node : {m3 : List ℕ} {d : Option Ref} {n3 : ℕ} → Joins Fit node_of (λ _ _. 37) 0 m2 m3 p.0 q.0 0 d n2 n3 → Runs m m3 b d n n3
          builds_node {m3} {d} last x =
              let o = first.runs (free_front x) in
              let r = second.runs (free_back x) in
              let j = last.runs (both_two x) in
              record {
                have = subst (λ t. Have m3 (opt d (code t) x.rest)) (sym is_node) j.have;
                full = λ e. omega (arith, j.full e, ap cells is_node);
                cost = omega (arith, o.cost, r.cost, j.cost, shares.3, shares.0, shares.1);
              }
