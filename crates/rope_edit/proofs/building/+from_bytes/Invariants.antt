use Rattle.std.proofs.Common.{length}
use Rattle.rope_edit.proofs.building.+from_bytes.Given as goal

abbrev pub decreases-from_bytes : goal.decreases-from_bytes
decreases-from_bytes g l = length l.bytes.now
