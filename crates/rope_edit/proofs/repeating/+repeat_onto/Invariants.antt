use Rattle.rope_edit.proofs.repeating.+repeat_onto.Given as goal

abbrev pub decreases-repeat_onto : goal.decreases-repeat_onto
decreases-repeat_onto g l = l.n
