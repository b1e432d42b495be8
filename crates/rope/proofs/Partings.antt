-- The steps of taking a node apart.
use Rattle.std.proofs.Common.{ℕ, ◌<◌, List, ◌∷◌, length}
use Rattle.cells.specs.declared.cell.Ref.{Ref}
use Rattle.cells.specs.Have.{Item, item, Have}
use Rattle.cells.specs.Steps.{Opening, Parted}
use Rattle.ropes.specs.Layout.{node_data}
use Rattle.rope_cells.specs.Coded.{code}
use Rattle.ropes.specs.Rope.{Rope}
use Rattle.rope.specs.Sided.{ordered}
use Rattle.rope.specs.Building.{Halved}
use Rattle.rope.specs.declared.sided.Side.{Side}
use Rattle.rope.proofs.Sides.{View}
use Rattle.rope.specs.declared.sided.Side.TheVariants.{Left, Right}
use Rattle.rope.proofs.Holds.{swap_have}

-- the children by side
pub halved_on : {m m' : List ℕ} {p : ℕ} (side : Side) (l r : Ref) → Parted m m' p l.0 r.0 → Halved side m m' p (ordered side l r).0.0 (ordered side l r).1.0
halved_on Right l r x = record { have = λ u v rest h. x.have (code u) (code v) (node_data u v) rest h }
halved_on {m' = m'} Left l r x = record { have = λ u v rest h. swap_have m' _ _ rest (x.have (code v) (code u) (node_data v u) rest h) }

-- a rope that is higher than a leaf may be taken apart
pub view_opening : {m : List ℕ} {p : ℕ} {t : Rope} {xs : List Item} (side : Side) → View side t → Have m (item p (code t) ∷ xs) → length xs < 2147483640 → Opening m p
view_opening {xs = xs} Right o h few = record { left = code o.first; right = code o.second; word = node_data o.first o.second; rest = xs; have = rw o.is at h; few = few }
view_opening {xs = xs} Left o h few = record { left = code o.second; right = code o.first; word = node_data o.second o.first; rest = xs; have = rw o.is at h; few = few }

-- and its parts are then held
pub view_halves : {m m' : List ℕ} {p a b : ℕ} {t : Rope} {xs : List Item} {side : Side} → Halved side m m' p a b → (o : View side t) → Have m (item p (code t) ∷ xs) → Have m' (item a (code o.first) ∷ (item b (code o.second) ∷ xs))
view_halves cut o h = cut.have o.first o.second _ (rw o.is at h)
