use Rattle.laws.proofs.UndoKeys.{undo_key_redo_key}
use Rattle.laws.proofs.history.undo_key_redo_key.Goals as goal

pub returns : goal.returns
returns c = undo_key_redo_key
