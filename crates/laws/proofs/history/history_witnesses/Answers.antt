use Rattle.laws.proofs.HistoryWitnesses.{history_witnesses}
use Rattle.laws.proofs.history.history_witnesses.Goals as goal

pub returns : goal.returns
returns c = history_witnesses
