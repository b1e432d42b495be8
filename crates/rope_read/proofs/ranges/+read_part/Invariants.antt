use Rattle.rope_read.proofs.ranges.+read_part.Given as goal

abbrev pub decreases-read_part : goal.decreases-read_part
decreases-read_part g l = l.size
