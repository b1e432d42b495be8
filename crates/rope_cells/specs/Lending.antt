-- What reading a rope asks, and what it finds.
use Rattle.std.specs.Prelude.{◌≡◌, ℕ, ◌+◌, ◌<◌, ◌≤◌, Bool, not, ◌&&◌, List, nat_le}
use Rattle.cells.specs.Have.{Item, Have, Lent}
use Rattle.ropes.specs.Rope.{Rope, node, bytes, size, height, is_small, Whole}
use Rattle.ropes.specs.Layout.{sums_of}
use Rattle.rope_cells.specs.Coded.{code}
use Rattle.rope_cells.specs.declared.reading.Shape.{Shape}
use Rattle.rope_cells.specs.declared.reading.Summary.{Summary}

-- p refers to a rope that is lent
pub record Lends (m : List ℕ) (p : ℕ) : Type 0 where
  pub rope : Rope
  pub rest : List Item
  pub whole : Whole rope
  pub few : size rope < 536870912
  pub have : Have m rest
  pub lent : Lent m p (code rope)

-- and not to an empty one
pub record LendsSome (m : List ℕ) (p : ℕ) : Type 0 where
  pub lends : Lends m p
  pub some : 1 ≤ height lends.rope

-- but to a node
pub record LendsNode (m : List ℕ) (p : ℕ) : Type 0 where
  pub lends : Lends m p
  pub high : 2 ≤ height lends.rope

-- a node with these children
pub record LendsChildren (m : List ℕ) (p : ℕ) : Type 0 where
  pub lends : Lends m p
  pub left : Rope
  pub right : Rope
  pub is : lends.rope ≡ node left right

pub record ShapeIs (t : Rope) (s : Shape) : Type 0 where
  pub high : s.height ≡ height t
  pub little : s.small ≡ is_small t

pub record SummaryIs (t : Rope) (s : Summary) : Type 0 where
  pub high : s.height ≡ height t
  pub sums : s.sums ≡ sums_of (bytes t)

-- whether the two may be the children of a node, the first not lower
abbrev pub beside : Shape → Shape → Bool
beside a b = nat_le a.height (b.height + 1) && not b.small
