-- What a rope's tag says of it.
use Rattle.std.specs.Prelude.{◌≡◌, ◌≤◌}
use Rattle.ropes.specs.Rope.{Rope, bytes, height}
use Rattle.ropes.specs.Layout.{sums_of, pack}
use Rattle.rope_cells.specs.declared.reading.Tag.{Tag}
use Rattle.rope_cells.specs.declared.reading.Tag.TheVariants.{Leaf, Node}

abbrev pub TagIs : Rope → Tag → Type 0
TagIs t (Leaf w) = (height t ≡ 1) × (w ≡ pack (sums_of (bytes t)))
TagIs t (Node h) = (2 ≤ height t) × (h ≡ height t)
