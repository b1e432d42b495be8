-- The steps of cutting a rope down its nodes.
use Rattle.std.proofs.Common.{◌≡◌, ℕ, ◌+◌, ◌-◌, ◌<◌, ◌≤◌, ◌≢◌, List, ◌∷◌, length, Some, None, Option, sym, ap, ◌∙◌, subst, arith, length-drop, length-take}
use Rattle.cells.specs.declared.cell.Ref.{Ref}
use Rattle.cells.specs.Tree.{none}
use Rattle.cells.specs.Have.{Item, item, refs, Have, all_nodes}
use Rattle.cells.specs.Sound.{Sound}
use Rattle.cells.specs.Steps.{Released, Opening}
use Rattle.cells.proofs.Held.{sound_some}
use Rattle.ropes.specs.Rope.{Rope, empty, leaf, node, bytes, size, height, cells, Inner}
use Rattle.ropes.specs.Join.{concat}
use Rattle.ropes.specs.Cut.{front, back}
use Rattle.ropes.proofs.Joins.{inner_whole}
use Rattle.ropes.proofs.Cuts.{size_bytes, size_of, front_ok, back_ok, bytes_front, bytes_back}
use Rattle.ropes.proofs.Counts.{cells_cut}
use Rattle.ropes.proofs.Descents.{cut_left, cut_right}
use Rattle.ropes.proofs.Ends.{inner_size, front_zero, back_zero, front_all, back_all, front_left, front_right, back_left, back_right}
use Rattle.rope_cells.specs.Coded.{code}
use Rattle.rope_cells.specs.Lending.{Lends, LendsSome, LendsChildren, ShapeIs}
use Rattle.rope_cells.specs.declared.reading.Shape.{Shape}
use Rattle.rope_cells.proofs.Codes.{nodes_code}
use Rattle.rope.specs.declared.cutting.Cut.{Cut}
use Rattle.rope.specs.declared.sided.Side.TheVariants.{Right}
use Rattle.rope.specs.Building.{Halved, concat_price}
use Rattle.rope.specs.Cutting.{AfterCut, One, Sized, Short, LeafCut, Cuts, cut_price, Beside, JoinsBeside}
use Rattle.rope.proofs.Holds.{swap_have, third_have, back_have, lends, lends_some}
use Rattle.rope.proofs.Merges.{leaf_view}
use Rattle.rope.proofs.Partings.{view_opening, view_halves}
use Rattle.rope.proofs.Sides.{View, view, Level}
use Rattle.rope.proofs.Cuttings.{after_cut_by, after_cut_release, with_front, with_back, cut_with_front, cut_with_back}

-- a reference to nothing may be held
pub add_none : (m : List ℕ) (p : ℕ) (xs : List Item) → p ≡ 0 → Have m xs → Have m (item p none ∷ xs)
add_none m p xs e h = record { sound = subst (λ z. Sound m (z ∷ refs xs)) (sym e) (sound_some m _ h.sound); stand = (e, h.stand) }

-- parts are not larger
pub part_size : (t : Rope) (i : ℕ) → size (back t i) ≤ size t
part_size t i = omega (arith, size_of (back t i) _ (bytes_back t i), length-drop i (bytes t), size_bytes t)

pub front_size : (t : Rope) (i : ℕ) → size (front t i) ≤ size t
front_size t i = omega (arith, size_of (front t i) _ (bytes_front t i), length-take i (bytes t), size_bytes t)

-- at the beginning
pub cuts_zero : {m : List ℕ} {t z : Ref} {n s at : ℕ} → z.0 ≡ 0 → at ≡ 0 → Cuts (Sized s) (cut_price at) at m m t.0 (Some (record { front = z; back = t })) n n
cuts_zero {m = m} {z = z} is_z zero_at =
    record { runs = λ x. record { have = rw (zero_at, front_zero x.t, back_zero x.t x.fit.whole) (add_none m z.0 _ is_z x.have); full = λ e. absurd cc; cost = omega arith } }

-- at the end
pub cuts_all : {m : List ℕ} {t z : Ref} {n s at : ℕ} → z.0 ≡ 0 → s ≤ at → Cuts (Sized s) (cut_price at) at m m t.0 (Some (record { front = t; back = z })) n n
cuts_all {m = m} {z = z} {at = at} is_z le =
    record {
      runs = λ x.
          let long : size x.t ≤ at = omega (arith, x.fit.long) in
          record { have = rw (front_all x.t at x.fit.whole long, back_all x.t at x.fit.whole long) (swap_have m _ _ _ (add_none m z.0 _ is_z x.have)); full = λ e. absurd cc; cost = omega arith };
    }

-- inside
module _ {m : List ℕ} {p s : ℕ} (x : One (Sized s) m p 160) (at : ℕ) (some : 1 ≤ at) (inside : at < s) where
  pub sized_some : 1 ≤ height x.t
  sized_some = go x.t (omega (arith, x.fit.long))
    where
      go : (t : Rope) → 1 ≤ size t → 1 ≤ height t
      go empty h = absurd (omega arith)
      go (leaf b) h = omega arith
      go (node l r) h = omega arith

  abbrev pub sized_lends : LendsSome m p
  sized_lends = lends_some m p x.t x.rest x.fit.whole (omega (arith, x.fit.long, x.fit.few)) sized_some x.have

  module _ {y : Shape} (is_y : (v : LendsSome m p) → ShapeIs v.lends.rope y) where
    abbrev pub sized_leaf : y.height ≡ 1 → One (LeafCut at) m p 160
    sized_leaf one =
        let v = leaf_view x.t x.fit.whole (sym (is_y sized_lends).high ∙ one) in
        record { t = x.t; rest = x.rest; fit = record { xs = v.xs; is = v.is; whole = x.fit.whole; some = some; inside = omega (arith, ap size v.is, x.fit.long) }; have = x.have; few = x.few }

    abbrev pub sized_view : y.height ≢ 1 → View Right x.t
    sized_view more =
        let k : height x.t ≢ 1 = λ e. more ((is_y sized_lends).high ∙ e) in
        view Right x.t (omega (arith, sized_some))

-- a node
module _ {m : List ℕ} {p s : ℕ} (x : One (Sized s) m p 160) (o : View Right x.t) where
  abbrev pub sized_children : LendsChildren m p
  sized_children = record { lends = lends m p x.t x.rest x.fit.whole (omega (arith, x.fit.long, x.fit.few)) x.have; left = o.first; right = o.second; is = o.is }

  pub sized_opening : Opening m p
  sized_opening = view_opening Right o x.have (omega (arith, x.few))

  pub sized_middle : {k : ℕ} → ((v : LendsChildren m p) → k ≡ length (bytes v.left)) → k ≡ size o.first
  sized_middle is_k = is_k sized_children ∙ sym (size_bytes o.first)

-- from m to m2 a node that is cut inside was let go for its children a and b, of which the left has k bytes
pub record Inside (s at k : ℕ) (m m2 : List ℕ) (p a b n n2 : ℕ) : Type 0 where
  pub some : 1 ≤ at
  pub inside : at < s
  pub view : (x : One (Sized s) m p 160) → View Right x.t
  pub middle : (x : One (Sized s) m p 160) → k ≡ size (view x).first
  pub cut : Halved Right m m2 p a b
  pub long : length m2 ≡ length m
  pub cost : n2 ≤ n + 13

module _ {s at k : ℕ} {m m2 : List ℕ} {p a b n n2 : ℕ} (i : Inside s at k m m2 p a b n n2) (x : One (Sized s) m p 160) where
  abbrev pub parted : View Right x.t
  parted = i.view x

  pub parted_inner : Inner (node parted.first parted.second)
  parted_inner = rw parted.is at (parted.inner x.fit.whole)

  pub parted_level : Level parted.first parted.second
  parted_level = parted.level x.fit.whole

  pub middle : k ≡ size parted.first
  middle = i.middle x

  pub middle_bounds : (1 ≤ k) × (k < s)
  middle_bounds =
      let l = parted_level in
      (omega (arith, middle, inner_size parted.first l.first), omega (arith, middle, x.fit.long, parted.long, inner_size parted.second l.second))

  -- in the left child
  module _ (lt : at < k) where
    abbrev pub left_one : One (Sized k) m2 a 160
    left_one =
        record {
          t = parted.first;
          rest = item b (code parted.second) ∷ x.rest;
          fit = record { whole = inner_whole parted.first parted_level.first; long = sym middle; few = omega (arith, x.fit.few, middle_bounds.1) };
          have = view_halves i.cut parted x.have;
          few = omega (arith, x.few, parted.high);
        }

    pub left_front : front x.t at ≡ front parted.first at
    left_front = ap (λ t. front t at) parted.is ∙ front_left parted.first parted.second at i.some (omega (arith, x.fit.long, parted.long)) (omega (arith, middle))

    pub left_back : back x.t at ≡ concat (back parted.first at) parted.second
    left_back = ap (λ t. back t at) parted.is ∙ back_left parted.first parted.second at i.some (omega (arith, x.fit.long, parted.long)) (omega (arith, middle))

    -- what it costs to cut the child and to join a part of it with the other
    left_price : cut_price at parted.first + (concat_price (back parted.first at) parted.second + 13) ≤ cut_price at x.t
    left_price = omega (arith, ap height left_front, ap height left_back, cut_left parted.first parted.second at parted_inner, parted.high)

    module _ {m3 : List ℕ} {n3 : ℕ} {c : Cut} (inner : Cuts (Sized k) (cut_price at) at m2 m3 a (Some c) n2 n3) where
      abbrev pub left_beside : Beside m3 c.back.0 b c.front.0
      left_beside =
          let l = parted_level in
          record {
            u = back parted.first at;
            v = parted.second;
            w = front parted.first at;
            rest = x.rest;
            fit = record { left = (back_ok parted.first at (inner_whole parted.first l.first)).whole; right = inner_whole parted.second l.second; few = omega (arith, part_size parted.first at, x.fit.long, x.fit.few, parted.long) };
            have = back_have m3 _ _ _ _ (inner.runs left_one).have;
            few = omega (arith, x.few);
          }

      pub left_joined : {m4 : List ℕ} {n4 : ℕ} (d : Option Ref) → JoinsBeside m3 m4 c.back.0 b c.front.0 d n3 n4 → length m3 ≡ length m2
          → AfterCut m m4 (with_front c.front d) (front x.t at) (back x.t at) x.rest (cells x.t + all_nodes x.rest + 1) n4 (n + cut_price at x.t)
      left_joined d last long3 =
          after_cut_by (cut_with_front d last left_beside) (omega (arith, i.long)) left_front left_back (omega (arith, cells_cut parted.first at, parted.count))
          (omega (arith, i.cost, (inner.runs left_one).cost, left_price))

    pub left_none : {m3 m4 : List ℕ} {n3 n4 : ℕ} → Cuts (Sized k) (cut_price at) at m2 m3 a None n2 n3 → Released m3 m4 b → n4 ≤ n3 + 5
        → AfterCut m m4 None (front x.t at) (back x.t at) x.rest (cells x.t + all_nodes x.rest + 1) n4 (n + cut_price at x.t)
    left_none inner gone drops = after_cut_release (inner.runs left_one) gone drops i.long (omega (arith, nodes_code parted.second, parted.count)) (omega (arith, i.cost, left_price))

  -- in the right child
  module _ (ge : k ≤ at) where
    abbrev pub right_one : One (Sized (s - k)) m2 b 160
    right_one =
        record {
          t = parted.second;
          rest = item a (code parted.first) ∷ x.rest;
          fit = record { whole = inner_whole parted.second parted_level.second; long = omega (arith, middle, x.fit.long, parted.long); few = omega (arith, x.fit.few) };
          have = swap_have m2 _ _ _ (view_halves i.cut parted x.have);
          few = omega (arith, x.few, parted.high);
        }

    pub right_front : front x.t at ≡ concat parted.first (front parted.second (at - k))
    right_front =
        ap (λ t. front t at) parted.is ∙ (front_right parted.first parted.second at i.some (omega (arith, x.fit.long, parted.long)) (omega (arith, middle))
        ∙ ap (λ z. concat parted.first (front parted.second (at - z))) (sym middle))

    pub right_back : back x.t at ≡ back parted.second (at - k)
    right_back =
        ap (λ t. back t at) parted.is ∙ (back_right parted.first parted.second at i.some (omega (arith, x.fit.long, parted.long)) (omega (arith, middle)) ∙ ap (λ z. back parted.second (at - z)) (sym middle))

    -- what it costs to cut the child and to join a part of it with the other
    right_price : cut_price (at - k) parted.second + (concat_price parted.first (front parted.second (at - k)) + 13) ≤ cut_price at x.t
    right_price = omega (arith, ap height right_front, ap height right_back, cut_right parted.first parted.second (at - k) parted_inner, parted.high)

    module _ {m3 : List ℕ} {n3 : ℕ} {c : Cut} (inner : Cuts (Sized (s - k)) (cut_price (at - k)) (at - k) m2 m3 b (Some c) n2 n3) where
      abbrev pub right_beside : Beside m3 a c.front.0 c.back.0
      right_beside =
          let l = parted_level in
          record {
            u = parted.first;
            v = front parted.second (at - k);
            w = back parted.second (at - k);
            rest = x.rest;
            fit = record {
              left = inner_whole parted.first l.first;
              right = (front_ok parted.second (at - k) (inner_whole parted.second l.second)).whole;
              few = omega (arith, front_size parted.second (at - k), x.fit.long, x.fit.few, parted.long);
            };
            have = third_have m3 _ _ _ _ (inner.runs right_one).have;
            few = omega (arith, x.few);
          }

      pub right_joined : {m4 : List ℕ} {n4 : ℕ} (d : Option Ref) → JoinsBeside m3 m4 a c.front.0 c.back.0 d n3 n4 → length m3 ≡ length m2
          → AfterCut m m4 (with_back c.back d) (front x.t at) (back x.t at) x.rest (cells x.t + all_nodes x.rest + 1) n4 (n + cut_price at x.t)
      right_joined d last long3 =
          after_cut_by (cut_with_back d last right_beside) (omega (arith, i.long)) right_front right_back (omega (arith, cells_cut parted.second (at - k), parted.count))
          (omega (arith, i.cost, (inner.runs right_one).cost, right_price))

    pub right_none : {m3 m4 : List ℕ} {n3 n4 : ℕ} → Cuts (Sized (s - k)) (cut_price (at - k)) (at - k) m2 m3 b None n2 n3 → Released m3 m4 a → n4 ≤ n3 + 5
        → AfterCut m m4 None (front x.t at) (back x.t at) x.rest (cells x.t + all_nodes x.rest + 1) n4 (n + cut_price at x.t)
    right_none inner gone drops = after_cut_release (inner.runs right_one) gone drops i.long (omega (arith, nodes_code parted.first, parted.count)) (omega (arith, i.cost, right_price))

-- a rope whose length is read first
module _ {m : List ℕ} {p : ℕ} (x : One Short m p 160) where
  abbrev pub short_lends : Lends m p
  short_lends = lends m p x.t x.rest x.fit.whole x.fit.few x.have

  abbrev pub short_sized : {s : ℕ} → ((v : Lends m p) → s ≡ size v.rope) → One (Sized s) m p 160
  short_sized is_s =
      let e = is_s short_lends in
      record { t = x.t; rest = x.rest; fit = record { whole = x.fit.whole; long = sym e; few = omega (arith, e, x.fit.few) }; have = x.have; few = x.few }
