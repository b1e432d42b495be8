use Rattle.rope.proofs.cutting.+split_sized.Given as goal

abbrev pub decreases-split_sized : goal.decreases-split_sized
decreases-split_sized g l = l.size
