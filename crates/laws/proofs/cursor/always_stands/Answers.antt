use Rattle.laws.proofs.CursorKeys.{always_stands}
use Rattle.laws.proofs.cursor.always_stands.Goals as goal

pub returns : goal.returns
returns c = always_stands
