use Rattle.rope_edit.proofs.Repeats.{times_two, repeated, repeated_quick}
use Rattle.rope_edit.proofs.repeating.repeat.Goals as goal

pub repeat_onto-requires : goal.repeat_onto-requires
repeat_onto-requires g c = times_two c.requires

pub returns : goal.returns
returns g c =
    let o = c.repeat_onto.ensures in
    let all = repeated o.repeats in
    record { repeated = all; kept = o.kept; quick = repeated_quick _ c.ranges.n.fits c.requires all }
