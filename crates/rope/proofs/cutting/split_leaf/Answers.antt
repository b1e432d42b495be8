use Rattle.std.proofs.Common.{◌∙◌, arith}
use Rattle.rope.proofs.Holds.{holding}
use Rattle.rope.proofs.Cuttings.{cut_leaf, cut_free, cut_inside, cut_leaves}
use Rattle.rope.proofs.cutting.split_leaf.Goals as goal

pub read_leaf-all-requires : goal.read_leaf-all-requires
read_leaf-all-requires g c = cut_leaf c.requires

pub release-requires : goal.release-requires
release-requires g c = rw c.read_leaf-all.ensures.same (holding c.requires.have)

pub split_at-requires : goal.split_at-requires
split_at-requires g c = cut_inside c.requires (λ y. c.deref.ensures.0 ∙ c.read_leaf-all.ensures.value y)

pub leaves-requires-clause-heap : goal.leaves-requires-clause-heap
leaves-requires-clause-heap g c =
    let gone = rw c.read_leaf-all.ensures.same at c.release.ensures.released in
    cut_free c.requires gone

pub returns-clause-cuts : goal.returns-clause-cuts
returns-clause-cuts g c =
    let a = c.read_leaf-all.ensures in
    let r = c.release.ensures in
    let s = c.split_at.ensures in
    let gone = rw a.same at r.released in
    let long = rw a.same at r.kept.long in
    record { runs = λ x. cut_leaves x (λ y. c.deref.ensures.0 ∙ a.value y) _ s.front s.back gone c.leaves.ensures.leaves long (omega (arith, a.touches, r.touches)) }
