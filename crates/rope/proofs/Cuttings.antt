-- The steps of cutting a leaf, and of joining a part with what was beside it.
use Rattle.std.proofs.Common.{◌≡◌, ℕ, ◌+◌, ◌≤◌, IfNone, MatchOption, List, ◌∷◌, length, take, drop, Some, None, Option, refl, ap, ◌∙◌, sym, subst, arith, length-drop, length-take}
use Rattle.cells.specs.declared.cell.Ref.{Ref}
use Rattle.cells.specs.Tree.{Tree}
use Rattle.cells.specs.Have.{Item, item, all_nodes}
use Rattle.cells.specs.Steps.{Holding, Released}
use Rattle.ropes.specs.Rope.{Rope, leaf, size, cells, Whole}
use Rattle.ropes.specs.Join.{concat}
use Rattle.ropes.specs.Cut.{front, back}
use Rattle.ropes.proofs.Ends.{piece_leaf}
use Rattle.rope_cells.specs.Coded.{code}
use Rattle.rope_cells.specs.Leaves.{LendsLeaf}
use Rattle.rope_cells.proofs.Codes.{nodes_code}
use Rattle.rope.specs.declared.cutting.Cut.{Cut}
use Rattle.rope.specs.Building.{Two, Joins, Any, concat_price, Free}
use Rattle.rope.specs.Cutting.{AfterCut, One, LeafCut, Beside, JoinsBeside, Leaves}
use Rattle.rope.proofs.Holds.{swap_have, holding, lends}

-- what a call cut, told of what was there before
pub after_cut_by : {m m1 m' : List ℕ} {d : Option Cut} {f f' b b' : Rope} {rest : List Item} {most most' n limit limit' : ℕ} → AfterCut m1 m' d f b rest most n limit → length m1 ≡ length m → f' ≡ f → b' ≡ b → most ≤ most' → limit ≤ limit'
    → AfterCut m m' d f' b' rest most' n limit'
after_cut_by a long is_f is_b le low = record { have = rw (is_f, is_b) a.have; full = λ e. omega (arith, a.full e); cost = omega (arith, a.cost) }

-- where nothing was cut, what was held beside it still is
pub none_cut_held : {m m' : List ℕ} {d : Option Cut} {f b : Rope} {p : ℕ} {v : Tree} {rest : List Item} {most n limit : ℕ} → AfterCut m m' d f b (item p v ∷ rest) most n limit → IfNone d (Holding m' p)
none_cut_held {d = None} a = holding a.have
none_cut_held {d = Some x} a = tt

-- nothing was cut, and what was held beside it was let go
pub after_cut_release : {m m1 m2 m' : List ℕ} {f f' b b' : Rope} {p : ℕ} {v : Tree} {rest : List Item} {most most' n n' limit limit' : ℕ} → AfterCut m1 m2 None f b (item p v ∷ rest) most n limit → Released m2 m' p → n' ≤ n + 5
    → length m1 ≡ length m → most ≤ most' → limit + 5 ≤ limit' → AfterCut m m' None f' b' rest most' n' limit'
after_cut_release a gone drops long le low = record { have = gone.have _ _ a.have; full = λ _. omega (arith, a.full refl); cost = omega (arith, a.cost) }

-- two parts, and a third beside them
module _ {m : List ℕ} {l r q : ℕ} where
  abbrev pub beside_two : Beside m l r q → Two Any m l r 128
  beside_two x = record { u = x.u; v = x.v; rest = item q (code x.w) ∷ x.rest; fit = x.fit; have = x.have; few = omega (arith, x.few) }

  module _ {m1 : List ℕ} {n n1 : ℕ} where
    pub joins_beside : {m2 : List ℕ} {n2 : ℕ} (d : Option Ref) → Joins Any concat concat_price 1 m m1 l r 128 d n n1 → MatchOption d (Released m1 m2 q) (λ _. m2 ≡ m1) → MatchOption d (n2 ≤ n1 + 5) (λ _. n2 ≡ n1) → JoinsBeside m m2 l r q d n n2
    joins_beside None j gone drops =
        record {
          have = λ x. gone.have _ _ (j.runs (beside_two x)).have;
          full = λ x _. omega (arith, (j.runs (beside_two x)).full refl, nodes_code x.w);
          cost = λ x. omega (arith, drops, (j.runs (beside_two x)).cost);
        }
    joins_beside (Some d) j same reads =
        record { have = λ x. rw same (j.runs (beside_two x)).have; full = λ x e. absurd cc; cost = λ x. omega (arith, reads, (j.runs (beside_two x)).cost) }

-- a part that was joined, where it was, as the back or the front of a cut
abbrev pub with_front : Ref → Option Ref → Option Cut
with_front f None = None
with_front f (Some b) = Some (record { front = f; back = b })

abbrev pub with_back : Ref → Option Ref → Option Cut
with_back b None = None
with_back b (Some f) = Some (record { front = f; back = b })

pub cut_with_front : {m m' : List ℕ} {l r n n' : ℕ} {q : Ref} (d : Option Ref) → JoinsBeside m m' l r q.0 d n n' → (x : Beside m l r q.0)
    → AfterCut m m' (with_front q d) x.w (concat x.u x.v) x.rest (cells x.u + cells x.v + cells x.w + all_nodes x.rest + 1) n' (n + concat_price x.u x.v)
cut_with_front None j x = record { have = j.have x; full = λ _. j.full x refl; cost = j.cost x }
cut_with_front {m' = m'} (Some d) j x = record { have = swap_have m' _ _ _ (j.have x); full = λ e. absurd cc; cost = j.cost x }

pub cut_with_back : {m m' : List ℕ} {l r n n' : ℕ} {q : Ref} (d : Option Ref) → JoinsBeside m m' l r q.0 d n n' → (x : Beside m l r q.0)
    → AfterCut m m' (with_back q d) (concat x.u x.v) x.w x.rest (cells x.u + cells x.v + cells x.w + all_nodes x.rest + 1) n' (n + concat_price x.u x.v)
cut_with_back None j x = record { have = j.have x; full = λ _. j.full x refl; cost = j.cost x }
cut_with_back (Some d) j x = record { have = j.have x; full = λ e. absurd cc; cost = j.cost x }

-- a leaf that is cut inside
module _ {m : List ℕ} {p at : ℕ} (x : One (LeafCut at) m p 160) where
  pub cut_whole : Whole (leaf x.fit.xs)
  cut_whole = subst Whole x.fit.is x.fit.whole

  abbrev pub cut_leaf : LendsLeaf m p
  cut_leaf = record { lends = lends m p x.t x.rest x.fit.whole (omega (arith, ap size x.fit.is, cut_whole.1)) x.have; xs = x.fit.xs; is = x.fit.is }

  abbrev pub cut_free : {m2 : List ℕ} → Released m m2 p → Free m2 1
  cut_free gone = record { rest = x.rest; have = gone.have (code x.t) x.rest x.have; few = omega (arith, x.few) }

  module _ {ys : List ℕ} (is : (y : LendsLeaf m p) → ys ≡ y.xs) where
    pub cut_inside : at ≤ length ys
    cut_inside = omega (arith, ap length (is cut_leaf), x.fit.inside)

    pub cut_leaves : {m2 m3 fs bs : List ℕ} {c : Option Cut} {n2 n3 : ℕ} (n : ℕ) → fs ≡ take at ys → bs ≡ drop at ys → (gone : Released m m2 p) → Leaves m2 m3 fs bs c n2 n3 → length m2 ≡ length m → n2 ≤ n + 18
        → AfterCut m m3 c (front x.t at) (back x.t at) x.rest (cells x.t + all_nodes x.rest + 1) n3 (n + 100)
    unfolding front back
    cut_leaves n is_f is_b gone made long reads =
        let xs = x.fit.xs in
        let e = is cut_leaf in
        let lt : 1 ≤ length (take at xs) = omega (arith, length-take at xs, x.fit.some, x.fit.inside) in
        let ld : 1 ≤ length (drop at xs) = omega (arith, length-drop at xs, x.fit.inside) in
        let fr = ap (λ t. front t at) x.fit.is ∙ (piece_leaf (take at xs) lt ∙ ap leaf (sym (is_f ∙ ap (take at) e))) in
        let bk = ap (λ t. back t at) x.fit.is ∙ (piece_leaf (drop at xs) ld ∙ ap leaf (sym (is_b ∙ ap (drop at) e))) in
        after_cut_by (made.runs (cut_free gone)) long fr bk (omega arith) (omega arith)
