-- A rope as a tree of cells.
use Rattle.std.specs.Prelude.{ℕ, ◌+◌, max}
use Rattle.cells.specs.Tree.{Tree, none}
use Rattle.cells.specs.Tree.{node as cell_of}
use Rattle.ropes.specs.Rope.{Rope, empty, leaf, node, height}
use Rattle.ropes.specs.Layout.{sums_of, pack, node_tag, leaf_data, node_data}

abbrev pub code : Rope → Tree
code empty = none
code (leaf b) = cell_of none none (leaf_data b)
code (node l r) = cell_of (code l) (code r) (node_data l r)

-- the first data word of a rope's cell
abbrev pub tag_of : Rope → ℕ
tag_of empty = 0
tag_of (leaf b) = pack (sums_of b)
tag_of (node l r) = node_tag (max (height l) (height r) + 1)
