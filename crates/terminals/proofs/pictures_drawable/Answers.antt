use Rattle.terminals.proofs.Pictures.{picture_drawable}
use Rattle.terminals.proofs.pictures_drawable.Goals as goal

pub returns : goal.returns
returns c = picture_drawable
