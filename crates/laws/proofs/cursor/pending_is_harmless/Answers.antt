use Rattle.laws.proofs.Harmless.{pending_is_harmless}
use Rattle.laws.proofs.cursor.pending_is_harmless.Goals as goal

pub returns : goal.returns
returns c = pending_is_harmless
