-- What a reference stands for.
use Rattle.std.specs.Prelude.{◌≡◌, ℕ, ◌+◌, ◌≤◌, List, drop}
use Rattle.cells.specs.Layout.{cell, at}

pub data Tree : Type 0 where
  none : Tree
  -- the children and the 13 data words
  node : Tree → Tree → List ℕ → Tree

-- reference p stands for the tree
abbrev pub Val : List ℕ → ℕ → Tree → Type 0
Val m p none = p ≡ 0
Val m p (node l r w) = (8 ≤ p) × Val m (at m p 1) l × Val m (at m p 2) r × (drop 3 (cell m p) ≡ w)

-- how many cells a tree has
abbrev pub nodes : Tree → ℕ
nodes none = 0
nodes (node l r w) = nodes l + nodes r + 1
