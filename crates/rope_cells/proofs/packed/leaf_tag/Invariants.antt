use Rattle.std.proofs.Common.{◌≡◌, ◌-◌, length, drop}
use Rattle.ropes.specs.Layout.{sums_of, pack}
use Rattle.rope_cells.proofs.packed.leaf_tag.Given as goal

abbrev pub invariant-loop-sum : goal.invariant-loop-sum
invariant-loop-sum l =
    ((goal.iterator-loop-sum).can_next l.sum-iterator)
    × ((goal.iterator-loop-sum).is_finite l.sum-iterator)
    × (l.tag ≡ pack (drop (6 - length l.yielded) (sums_of l.bytes)))
