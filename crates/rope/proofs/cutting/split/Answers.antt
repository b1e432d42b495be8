use Rattle.std.proofs.Common.{refl, arith}
use Rattle.rope.proofs.Cuttings.{after_cut_by}
use Rattle.rope.proofs.Splits.{short_lends, short_sized}
use Rattle.rope.proofs.cutting.split.Goals as goal

pub len-size-requires : goal.len-size-requires
len-size-requires g c = short_lends c.requires

pub split_sized-requires : goal.split_sized-requires
split_sized-requires g c =
    let s = c.len-size.ensures in
    rw s.same (short_sized c.requires s.value)

pub returns-clause-cuts : goal.returns-clause-cuts
returns-clause-cuts g c =
    let s = c.len-size.ensures in
    let last = rw s.same at c.split_sized.ensures.cuts in
    record { runs = λ x. after_cut_by (last.runs (short_sized x s.value)) refl refl refl (omega arith) (omega (arith, s.touches)) }
