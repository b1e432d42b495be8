use Rattle.std.proofs.Common.{◌≡◌, ◌-◌, vec_items, vec_len, vec_capacity}
use Rattle.words.specs.Padded.{padded}
use Rattle.words.proofs.heap_words.fill_up.Given as goal

abbrev pub invariant-loop-items : goal.invariant-loop-items
invariant-loop-items l =
    (vec_capacity l.items ≡ vec_capacity l.initial.items)
    × (padded (vec_items l.items) l.n ≡ padded (vec_items l.initial.items) l.n)

abbrev pub decreases-loop-items : goal.decreases-loop-items
decreases-loop-items l = l.n - vec_len l.items
