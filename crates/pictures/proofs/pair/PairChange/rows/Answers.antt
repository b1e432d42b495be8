use Rattle.std.proofs.Common.{sym}
use Rattle.pictures.proofs.Rows.{height_of}
use Rattle.pictures.proofs.pair.PairChange.rows.Goals as goal

pub returns : goal.returns
returns c = sym (height_of _ _ _)
