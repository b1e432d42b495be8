-- Parts of ropes, and what is counted of them.
use Rattle.std.specs.Prelude.{ℕ, ◌+◌, max, Bool, ◌&&◌, List, ◌==◌, nat_le}
use Rattle.ropes.specs.Rope.{Rope, size, height, leaf_min, leaf_max, Inner}
use Rattle.rope_cells.specs.Lending.{Lends}
use Rattle.rope_text.specs.declared.balance.Extent.{Extent}

-- p refers to a part of a rope of more than one leaf
pub record LendsInner (m : List ℕ) (p : ℕ) : Type 0 where
  pub lends : Lends m p
  pub inner : Inner lends.rope

abbrev pub extent_of : Rope → Extent
extent_of t = record { height = height t; bytes = size t }

-- whether a cell tells the truth of a leaf of n bytes, which may stand beside others
abbrev pub is_leaf_of : Extent → ℕ → Bool
is_leaf_of told n = nat_le leaf_min n && (nat_le n leaf_max && (told.bytes == n))

-- whether a cell tells the truth of a node of these two, the first said to have so many bytes, and neither is too high
abbrev pub is_node_of : Extent → ℕ → Extent → Extent → Bool
is_node_of told before a b =
    nat_le a.height (b.height + 1)
    && (nat_le b.height (a.height + 1)
    && ((told.height == max a.height b.height + 1) && ((before == a.bytes) && (told.bytes == a.bytes + b.bytes))))
