-- A rope behind one that may not have been made.
use Rattle.std.proofs.Common.{◌≡◌, ℕ, ◌+◌, ◌*◌, ◌<◌, ◌≤◌, max, List, ◌∷◌, length, Some, None, Option, sym, refl, ap, subst, arith}
use Rattle.cells.specs.declared.cell.Ref.{Ref}
use Rattle.cells.specs.Tree.{Tree}
use Rattle.cells.specs.Have.{Item, item, Have, opt, all_nodes}
use Rattle.cells.proofs.Held.{reorder}
use Rattle.ropes.specs.Rope.{Rope, height, cells}
use Rattle.ropes.specs.Join.{concat}
use Rattle.ropes.proofs.Joins.{concat_ok}
use Rattle.ropes.proofs.Cuts.{size_concat}
use Rattle.ropes.proofs.Descents.{concat_steps_few}
use Rattle.rope_cells.specs.Coded.{code}
use Rattle.rope.specs.Building.{capacity, After, Any, concat_price, giving_up}
use Rattle.rope.specs.Cutting.{Short}
use Rattle.rope.proofs.Holds.{swap_have}
use Rattle.rope_edit.specs.Editing.{Following, Follows}

-- what is held behind one that may be there may be reordered
pub opt_swap_behind : (m : List ℕ) (d : Option Ref) (t : Tree) (x y : Item) (xs : List Item) → Have m (opt d t (x ∷ (y ∷ xs))) → Have m (opt d t (y ∷ (x ∷ xs)))
opt_swap_behind m None t x y xs h = swap_have m x y xs h
opt_swap_behind m (Some d) t x y xs h =
    reorder m (item d.0 t ∷ (x ∷ (y ∷ xs))) (item d.0 t ∷ (y ∷ (x ∷ xs))) (λ q. omega arith) (λ s. (s.0, (s.1.1.0, (s.1.0, s.1.1.1)))) h

pub concat_short : (u v : Rope) → Any u v → Short (concat u v)
concat_short u v f = record { whole = (concat_ok u v f.left f.right).whole; few = omega (arith, size_concat u v, f.few) }

-- A rope was made, or it was not, since the row has no room for more than `most` cells. Another is to go behind it.
pub record Pending (m : List ℕ) (l : Option Ref) (r : ℕ) : Type 0 where
  pub u : Rope
  pub v : Rope
  pub rest : List Item
  pub most : ℕ
  pub fit : Any u v
  pub have : Have m (opt l (code u) (item r (code v) ∷ rest))
  pub no_first : l ≡ None → capacity (length m) ≤ 8 + most
  pub fits : cells u + cells v + all_nodes rest + 1 ≤ most
  pub few : length rest + 128 < 2147483640

-- what that costs
abbrev pub pending_price : Option Ref → Rope → Rope → ℕ
pending_price None u v = 0
pending_price (Some l) u v = concat_price u v

pub pending_few : (l : Option Ref) (u v : Rope) → giving_up l + pending_price l u v ≤ concat_price u v
pending_few None u v = omega arith
pending_few (Some l) u v = omega arith

pub concat_price_few : (u v : Rope) → concat_price u v ≤ 52 * max (height u) (height v) + 237
concat_price_few u v = omega (arith, concat_steps_few u v)

pub pending_following : {m : List ℕ} (l : Option Ref) {r : ℕ} → Pending m l r → Following m l r
pending_following None x = record { tree = code x.v; rest = x.rest; have = x.have }
pending_following (Some l) x = record { u = x.u; v = x.v; rest = x.rest; fit = x.fit; have = x.have; few = x.few }

pub pending_after : (m m' : List ℕ) (l : Option Ref) (r : ℕ) (d : Option Ref) (n n' : ℕ) → Follows m m' l r d n n'
    → (x : Pending m l r) → After m m' d (concat x.u x.v) x.rest x.most n' (n + pending_price l x.u x.v)
pending_after m m' None r d n n' missed x =
    record {
      have = subst (λ z. Have m' (opt z (code (concat x.u x.v)) x.rest)) (sym missed.none) (missed.released.have (code x.v) x.rest x.have);
      full = λ e. x.no_first refl;
      cost = omega (arith, missed.cost, ap giving_up missed.none);
    }
pending_after m m' (Some l) r d n n' j x =
    let o = j.runs (record { u = x.u; v = x.v; rest = x.rest; fit = x.fit; have = x.have; few = x.few }) in
    record { have = o.have; full = λ e. omega (arith, o.full e, x.fits); cost = o.cost }
