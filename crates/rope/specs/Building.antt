-- What building ropes asks, and what it leaves. A call takes references over. Where there is room the new rope is held in their place,
-- and else nothing is: they are let go.
use Rattle.std.specs.Prelude.{◌≡◌, ℕ, ◌+◌, ◌-◌, ◌*◌, ◌/◌, ◌<◌, ◌≤◌, min, cond, List, ◌∷◌, length, take, drop, Some, None, Option, nat_le}
use Rattle.cells.specs.declared.cell.Ref.{Ref}
use Rattle.cells.specs.Have.{Item, item, Have, opt, all_nodes}
use Rattle.ropes.specs.Rope.{Rope, leaf, leaf_max, size, height, cells, Inner, Whole}
use Rattle.ropes.specs.Rope.{node as node_of}
use Rattle.ropes.specs.Costs.{steps, concat_steps}
use Rattle.rope.specs.declared.sided.Side.{Side}
use Rattle.rope_cells.specs.Coded.{code}
use Rattle.rope.specs.Sided.{node_on, double_on, attach}

-- how many cells a row of so many words has room for, the header's 8 among them
abbrev pub capacity : ℕ → ℕ
capacity words = min 268435456 (words / 16)

-- n where there is nothing
abbrev pub if_none : {A : Type 0} → ℕ → Option A → ℕ
if_none n None = n
if_none n (Some d) = 0

-- what it costs to let two references go where there is no room for what they go into
abbrev pub giving_up : Option Ref → ℕ
giving_up d = if_none 10 d

-- The row went from m to m'. The rope t is held beside the rest, or just the rest, since the row has no room for more than `most` cells.
pub record After (m m' : List ℕ) (d : Option Ref) (t : Rope) (rest : List Item) (most touched limit : ℕ) : Type 0 where
  pub have : Have m' (opt d (code t) rest)
  pub full : d ≡ None → capacity (length m) ≤ 8 + most
  pub cost : touched ≤ limit + giving_up d

-- two ropes are held, of which F holds, and few others
pub record Two (F : Rope → Rope → Type 0) (m : List ℕ) (l r room : ℕ) : Type 0 where
  pub u : Rope
  pub v : Rope
  pub rest : List Item
  pub fit : F u v
  pub have : Have m (item l (code u) ∷ (item r (code v) ∷ rest))
  pub few : length rest + room < 2147483640

-- Of two ropes of which F holds f made one. On the way there were at most so many more cells than theirs.
pub record Joins (F : Rope → Rope → Type 0) (f : Rope → Rope → Rope) (price : Rope → Rope → ℕ) (more : ℕ) (m m' : List ℕ) (l r room : ℕ) (d : Option Ref) (before after : ℕ) : Type 0 where
  pub runs : (x : Two F m l r room) → After m m' d (f x.u x.v) x.rest (cells x.u + cells x.v + all_nodes x.rest + more) after (before + price x.u x.v)

-- two ropes that are not empty and may become one
pub record Fit (u v : Rope) : Type 0 where
  pub left : Whole u
  pub right : Whole v
  pub some_left : 1 ≤ height u
  pub some_right : 1 ≤ height v
  pub few : size u + size v < 536870912

-- nothing is taken over
pub record Free (m : List ℕ) (room : ℕ) : Type 0 where
  pub rest : List Item
  pub have : Have m rest
  pub few : length rest + room < 2147483640

-- from m to m' a leaf of these bytes was made, or there was no room
pub record Leafed (m m' : List ℕ) (b : List ℕ) (d : Option Ref) (before after : ℕ) : Type 0 where
  pub runs : (x : Free m 0) → After m m' d (leaf b) x.rest (all_nodes x.rest) after (before + 31)

-- from m to m' the node p of a rope was let go, and its children are held in its place, b the one on this side
pub record Halved (side : Side) (m m' : List ℕ) (p a b : ℕ) : Type 0 where
  pub have : (u v : Rope) (rest : List Item) → Have m (item p (code (node_on side u v)) ∷ rest) → Have m' (item a (code u) ∷ (item b (code v) ∷ rest))

-- three parts are held, of which the second is the highest
pub record Peak (m : List ℕ) (a b c : ℕ) : Type 0 where
  pub u : Rope
  pub v : Rope
  pub w : Rope
  pub rest : List Item
  pub first : Inner u
  pub second : Inner v
  pub third : Inner w
  pub high : height v ≡ height w + 1
  pub level : height u ≡ height w
  pub small : size u + size v + size w < 536870912
  pub have : Have m (item a (code u) ∷ (item b (code v) ∷ (item c (code w) ∷ rest)))
  pub few : length rest + 8 < 2147483640

-- and became two nodes in one
pub record Doubles (side : Side) (m m' : List ℕ) (a b c : ℕ) (d : Option Ref) (before after : ℕ) : Type 0 where
  pub runs : (x : Peak m a b c) → After m m' d (double_on side x.u x.v x.w) x.rest (cells x.u + cells x.v + cells x.w + all_nodes x.rest + 1) after (before + 122)

-- the second part is too high by one
pub record Leaning (u v : Rope) : Type 0 where
  pub first : Inner u
  pub second : Inner v
  pub high : height v ≡ height u + 2
  pub few : size u + size v < 536870912

-- the second part is too high by one at most
pub record Near (u v : Rope) : Type 0 where
  pub first : Inner u
  pub second : Inner v
  pub low : height u ≤ height v + 1
  pub high : height v ≤ height u + 2
  pub few : size u + size v < 536870912

-- two leaves
pub record TwoLeaves (u v : Rope) : Type 0 where
  pub fit : Fit u v
  pub one_left : height u ≡ 1
  pub one_right : height v ≡ 1

-- bytes of one leaf or two, as leaves
unfoldable pub spread : List ℕ → Rope
spread b = cond (nat_le (length b) leaf_max) (leaf b) (node_of (leaf (take (length b / 2) b)) (leaf (drop (length b / 2) b)))

-- from m to m' one leaf or two of these bytes were made, or there was no room
pub record Spreads (m m' : List ℕ) (b : List ℕ) (d : Option Ref) (before after : ℕ) : Type 0 where
  pub runs : (x : Free m 2) → After m m' d (spread b) x.rest (all_nodes x.rest + 2) after (before + 99)

-- the guest, which is not higher, is to go onto the host, whose height is at most levels
pub record Onto (levels : ℕ) (host guest : Rope) : Type 0 where
  pub fit : Fit host guest
  pub lower : height guest ≤ height host
  pub deep : height host ≤ levels

-- A rotation costs 98, and is done only where the host doesn't become higher.
abbrev pub attach_price : Side → Rope → Rope → ℕ
attach_price side host guest = (52 * steps (height host) guest + 235) - 98 * (height (attach side host guest) - height host)

-- two ropes, either of which may be empty
pub record Any (u v : Rope) : Type 0 where
  pub left : Whole u
  pub right : Whole v
  pub few : size u + size v < 536870912

abbrev pub concat_price : Rope → Rope → ℕ
concat_price u v = 52 * concat_steps u v + 237
