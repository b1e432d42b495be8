-- What cutting a rope asks, and what it leaves.
use Rattle.std.specs.Prelude.{◌≡◌, ℕ, ◌+◌, ◌*◌, ◌<◌, ◌≤◌, List, ◌∷◌, length, Some, None, Option}
use Rattle.cells.specs.declared.cell.Ref.{Ref}
use Rattle.cells.specs.Tree.{Tree}
use Rattle.cells.specs.Have.{Item, item, Have, all_nodes}
use Rattle.ropes.specs.Rope.{Rope, leaf, size, height, cells, Whole}
use Rattle.ropes.specs.Join.{concat}
use Rattle.ropes.specs.Cut.{front, back}
use Rattle.rope_cells.specs.Coded.{code}
use Rattle.rope.specs.declared.cutting.Cut.{Cut}
use Rattle.rope.specs.Building.{capacity, if_none, Free, Any, concat_price}

-- the two parts, where they were made
abbrev pub parts : Option Cut → Tree → Tree → List Item → List Item
parts None f b xs = xs
parts (Some c) f b xs = item c.front.0 f ∷ (item c.back.0 b ∷ xs)

-- what it costs to let three references go where there is no room
abbrev pub giving_up : {A : Type 0} → Option A → ℕ
giving_up d = if_none 15 d

-- The row went from m to m'. The ropes f and b are held beside the rest, or just the rest, since the row has no room for more than `most` cells.
pub record AfterCut (m m' : List ℕ) (d : Option Cut) (f b : Rope) (rest : List Item) (most touched limit : ℕ) : Type 0 where
  pub have : Have m' (parts d (code f) (code b) rest)
  pub full : d ≡ None → capacity (length m) ≤ 8 + most
  pub cost : touched ≤ limit + giving_up d

-- a rope is held of which F holds
pub record One (F : Rope → Type 0) (m : List ℕ) (p room : ℕ) : Type 0 where
  pub t : Rope
  pub rest : List Item
  pub fit : F t
  pub have : Have m (item p (code t) ∷ rest)
  pub few : length rest + (height t + room) < 2147483640

-- a rope of n bytes
pub record Sized (n : ℕ) (t : Rope) : Type 0 where
  pub whole : Whole t
  pub long : size t ≡ n
  pub few : n < 536870912

-- a rope of few enough bytes
pub record Short (t : Rope) : Type 0 where
  pub whole : Whole t
  pub few : size t < 536870912

abbrev pub cut_price : ℕ → Rope → ℕ
cut_price at t = 250 * height t + 52 * (height (front t at) + height (back t at))

-- of a rope of which F holds both parts were made
pub record Cuts (F : Rope → Type 0) (price : Rope → ℕ) (at : ℕ) (m m' : List ℕ) (p : ℕ) (d : Option Cut) (before after : ℕ) : Type 0 where
  pub runs : (x : One F m p 160) → AfterCut m m' d (front x.t at) (back x.t at) x.rest (cells x.t + all_nodes x.rest + 1) after (before + price x.t)

-- and counted what they cost together with the length
pub record Splits (at : ℕ) (m m' : List ℕ) (p : ℕ) (d : Option Cut) (before after : ℕ) : Type 0 where
  pub runs : (x : One Short m p 160) → AfterCut m m' d (front x.t at) (back x.t at) x.rest (cells x.t + all_nodes x.rest + 1) after (before + (cut_price at x.t + 2))

-- from m to m' leaves of these bytes were made, or there was no room for both
pub record Leaves (m m' f b : List ℕ) (d : Option Cut) (before after : ℕ) : Type 0 where
  pub runs : (x : Free m 1) → AfterCut m m' d (leaf f) (leaf b) x.rest (all_nodes x.rest + 1) after (before + 62)

-- a leaf that is cut inside
pub record LeafCut (at : ℕ) (t : Rope) : Type 0 where
  pub xs : List ℕ
  pub is : t ≡ leaf xs
  pub whole : Whole t
  pub some : 1 ≤ at
  pub inside : at < length xs

-- a part that goes before or behind another, and a third beside them
pub record Beside (m : List ℕ) (l r q : ℕ) : Type 0 where
  pub u : Rope
  pub v : Rope
  pub w : Rope
  pub rest : List Item
  pub fit : Any u v
  pub have : Have m (item l (code u) ∷ (item r (code v) ∷ (item q (code w) ∷ rest)))
  pub few : length rest + 136 < 2147483640

-- what was made and what is held beside it, or neither
abbrev pub opt_beside : Option Ref → Tree → Item → List Item → List Item
opt_beside None t x xs = xs
opt_beside (Some d) t x xs = item d.0 t ∷ (x ∷ xs)

-- u and v became one beside w, or all three were let go
pub record JoinsBeside (m m' : List ℕ) (l r q : ℕ) (d : Option Ref) (before after : ℕ) : Type 0 where
  pub have : (x : Beside m l r q) → Have m' (opt_beside d (code (concat x.u x.v)) (item q (code x.w)) x.rest)
  pub full : (x : Beside m l r q) → d ≡ None → capacity (length m) ≤ 8 + (cells x.u + cells x.v + cells x.w + all_nodes x.rest + 1)
  pub cost : (x : Beside m l r q) → after ≤ before + concat_price x.u x.v + giving_up d
