use Rattle.std.proofs.Common.{◌≡◌, true, false, length, arith}
use Rattle.rope_cells.specs.LeafBytes.{items}
use Rattle.rope.specs.Merging.{stays}
use Rattle.rope.proofs.Merges.{left_leaf, right_leaf, merge_free, merge_some, merged_node, merged_spread}
use Rattle.rope.proofs.merging.merge.Goals as goal

pub read_leaf-a-requires : goal.read_leaf-a-requires
read_leaf-a-requires g c = left_leaf c.requires

pub read_leaf-b-requires : goal.read_leaf-b-requires
read_leaf-b-requires g c = rw c.read_leaf-a.ensures.same (right_leaf c.requires)

pub returns-then-stay-clause-joins : goal.returns-then-stay-clause-joins
returns-then-stay-clause-joins g c =
    let a = c.read_leaf-a.ensures in
    let b = c.read_leaf-b.ensures in
    let stay : stays (length (items c.read_leaf-a.result)) (length (items c.read_leaf-b.result)) ≡ true = cc (c.len.ensures.value, c.len-2.ensures.value, c.if-stay.ensures) in
    let is_b = rw a.same at b.value in
    let last = rw (b.same, a.same) at c.node.ensures.joins in
    record { runs = λ x. merged_node x a.value is_b _ stay last (omega (arith, a.touches, b.touches)) }

pub spread-requires-clause-heap : goal.spread-requires-clause-heap
spread-requires-clause-heap g c =
    let gone = rw (c.read_leaf-b.ensures.same, c.read_leaf-a.ensures.same) at c.release_both.ensures.dropped in
    merge_free c.requires gone

pub spread-requires-clause-some : goal.spread-requires-clause-some
spread-requires-clause-some g c =
    let is_b = rw c.read_leaf-a.ensures.same at c.read_leaf-b.ensures.value in
    rw (c.deref.ensures.0, c.joined.ensures) (merge_some c.requires c.read_leaf-a.ensures.value is_b)

pub returns-clause-joins : goal.returns-clause-joins
returns-clause-joins g c =
    let a = c.read_leaf-a.ensures in
    let b = c.read_leaf-b.ensures in
    let r = c.release_both.ensures in
    let go : stays (length (items c.read_leaf-a.result)) (length (items c.read_leaf-b.result)) ≡ false = cc (c.len.ensures.value, c.len-2.ensures.value, c.if-stay.ensures) in
    let is_b = rw a.same at b.value in
    let gone = rw (b.same, a.same) at r.dropped in
    let long = rw (b.same, a.same) at r.kept.long in
    let last = rw (c.deref.ensures.0, c.joined.ensures) at c.spread.ensures.spreads in
    record { runs = λ x. merged_spread x a.value is_b _ go gone last long (omega (arith, a.touches, b.touches, r.touches)) }
