-- What the edits ask, and what they leave: which rope is held in the place of what was taken over, which bytes it has, why there may be
-- no room for it, and what it costs. What else is held stays.
use Rattle.std.specs.Prelude.{◌≡◌, ℕ, ◌+◌, ◌-◌, ◌*◌, ◌/◌, ◌%◌, ◌^◌, ◌<◌, ◌≤◌, max, cond, ◌==◌, List, ◌∷◌, length, Some, None, Option}
use Rattle.cells.specs.declared.cell.Ref.{Ref}
use Rattle.cells.specs.Have.{Item, item, Have, Lent, all_nodes}
use Rattle.cells.specs.Steps.{Holding, Released}
use Rattle.spec.specs.Text.{part, replaced, copies}
use Rattle.ropes.specs.Rope.{Rope, empty, bytes, size, height, cells, Whole}
use Rattle.ropes.specs.Join.{concat}
use Rattle.ropes.specs.Cut.{slice, replace, repeat_onto}
use Rattle.ropes.specs.Build.{from_bytes}
use Rattle.rope_cells.specs.Coded.{code}
use Rattle.rope.specs.Building.{After, Two, Joins, Any, Free, concat_price}
use Rattle.rope.specs.Cutting.{One, Short}

-- a rope is lent, and few references are held
pub record Lend (m : List ℕ) (p : ℕ) : Type 0 where
  pub t : Rope
  pub rest : List Item
  pub fit : Short t
  pub have : Have m rest
  pub lent : Lent m p (code t)
  pub few : length rest + 200 < 2147483640

-- of a rope that was cut one part is kept
pub record Keeps (part : Rope → ℕ → Rope) (at : ℕ) (m m' : List ℕ) (p : ℕ) (d : Option Ref) (before after : ℕ) : Type 0 where
  pub runs : (x : One Short m p 160) → After m m' d (part x.t at) x.rest (cells x.t + all_nodes x.rest + 1) after (before + (354 * height x.t + 12))

-- a part of a rope that stays lent as long as what it is held by is held
pub record Slices (a b : ℕ) (m m' : List ℕ) (p : ℕ) (d : Option Ref) (before after : ℕ) : Type 0 where
  pub runs : (x : Lend m p) → After m m' d (slice x.t a b) x.rest (cells x.t + all_nodes x.rest + 2) after (before + (708 * height x.t + 26))
  pub short : (x : Lend m p) → Short (slice x.t a b)
  pub text : (x : Lend m p) → bytes (slice x.t a b) ≡ part (bytes x.t) a b

-- a rope is to go behind another, if that was made
abbrev pub Following : List ℕ → Option Ref → ℕ → Type 0
Following m None r = Holding m r
Following m (Some l) r = Two Any m l.0 r 128

-- it went there, or was let go
pub record Missed (m m' : List ℕ) (r : ℕ) (d : Option Ref) (before after : ℕ) : Type 0 where
  pub none : d ≡ None
  pub released : Released m m' r
  pub cost : after ≤ before + 5

abbrev pub Follows : (m m' : List ℕ) (l : Option Ref) (r : ℕ) (d : Option Ref) (before after : ℕ) → Type 0
Follows m m' None r d before after = Missed m m' r d before after
Follows m m' (Some l) r d before after = Joins Any concat concat_price 1 m m' l.0 r 128 d before after

-- a part of the first rope is replaced by the second
pub record Replaces (a b : ℕ) (m m' : List ℕ) (p q : ℕ) (d : Option Ref) (before after : ℕ) : Type 0 where
  pub runs : (x : Two Any m p q 200)
      → After m m' d (replace x.u a b x.v) x.rest (cells x.u + cells x.v + all_nodes x.rest + 4) after
      (before + (708 * height x.u + 104 * max (height x.u) (height x.v) + 540))
  pub short : (x : Two Any m p q 200) → Short (replace x.u a b x.v)
  pub text : (x : Two Any m p q 200) → a ≤ b → bytes (replace x.u a b x.v) ≡ replaced (bytes x.u) a b (bytes x.v)

-- A rope of these bytes was made. A leaf costs 31, a node 37, and there are as many leaves as the bytes fill.
pub record Builds (m m' : List ℕ) (b : List ℕ) (d : Option Ref) (before after : ℕ) : Type 0 where
  pub runs : (x : Free m (length b)) → After m m' d (from_bytes b) x.rest (cells (from_bytes b) + all_nodes x.rest) after (before + (68 * ((length b + 47) / 48) - 37))
  pub short : Short (from_bytes b)
  pub text : bytes (from_bytes b) ≡ b

-- the second rope is to go behind the first n times
pub record Copied (n : ℕ) (u v : Rope) : Type 0 where
  pub left : Whole u
  pub right : Whole v
  pub few : size u + n * size v < 536870912

-- how many cells there are at most on the way: what is held meanwhile has no more bytes than the result
abbrev pub copied_most : ℕ → Rope → Rope → List Item → ℕ
copied_most n u v rest = (size u + n * size v) / 12 + all_nodes rest + 4

-- the second once behind the first where the count is odd
abbrev pub odd_onto : ℕ → Rope → Rope → Rope
odd_onto n u v = cond (n % 2 == 0) u (concat u v)

-- and still held
pub record Adds (n : ℕ) (m m' : List ℕ) (l r : ℕ) (d : Option Ref) (before after : ℕ) : Type 0 where
  pub runs : (x : Two Any m l r 200)
      → After m m' d (odd_onto n x.u x.v) (item r (code x.v) ∷ x.rest) (cells x.u + cells x.v + cells x.v + all_nodes x.rest + 1) after (before + (concat_price x.u x.v + 2))

-- a rope that is to be doubled
pub record Twice (t : Rope) : Type 0 where
  pub whole : Whole t
  pub few : size t + size t < 536870912

pub record Doubles (m m' : List ℕ) (p : ℕ) (d : Option Ref) (before after : ℕ) : Type 0 where
  pub runs : (x : One Twice m p 160) → After m m' d (concat x.t x.t) x.rest (cells x.t + cells x.t + all_nodes x.rest + 1) after (before + 239)

-- The second is behind the first n times, by so many steps as n has binary digits, or more.
pub record Repeats (n : ℕ) (m m' : List ℕ) (l r : ℕ) (d : Option Ref) (before after : ℕ) : Type 0 where
  pub runs : (x : Two (Copied n) m l r 200) (steps : ℕ) → n < 2 ^ steps
      → After m m' d (repeat_onto steps x.u x.v n) x.rest (copied_most n x.u x.v x.rest) after (before + (steps * (52 * height (repeat_onto steps x.u x.v n) + 480) + 5))

-- n times the rope's bytes are few enough
pub record Times (n : ℕ) (t : Rope) : Type 0 where
  pub whole : Whole t
  pub few : n * size t < 536870912

-- a rope n times
pub record Repeated (n : ℕ) (m m' : List ℕ) (p : ℕ) (d : Option Ref) (before after : ℕ) : Type 0 where
  pub runs : (x : One (Times n) m p 200) (steps : ℕ) → n < 2 ^ steps
      → After m m' d (repeat_onto steps empty x.t n) x.rest (n * size x.t / 12 + all_nodes x.rest + 4) after (before + (steps * (52 * height (repeat_onto steps empty x.t n) + 480) + 5))
  pub short : (x : One (Times n) m p 200) (steps : ℕ) → n < 2 ^ steps → Short (repeat_onto steps empty x.t n)
  pub text : (x : One (Times n) m p 200) (steps : ℕ) → n < 2 ^ steps → bytes (repeat_onto steps empty x.t n) ≡ copies n (bytes x.t)
