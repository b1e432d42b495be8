use Rattle.laws.proofs.Witnesses.{cursor_witnesses}
use Rattle.laws.proofs.cursor.witnesses.Goals as goal

pub returns : goal.returns
returns c = cursor_witnesses
