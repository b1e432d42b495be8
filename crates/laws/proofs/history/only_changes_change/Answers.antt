use Rattle.laws.proofs.OnlyChanges.{only_changes_change}
use Rattle.laws.proofs.history.only_changes_change.Goals as goal

pub returns : goal.returns
returns c = only_changes_change
