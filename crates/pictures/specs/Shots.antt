-- What a snapshot shows on a screen of a size.
use Rattle.spec.specs.Screen.{Picture}
use Rattle.pictures.specs.declared.shot.Size.{Size}
use Rattle.pictures.specs.declared.shot.Snapshot.{Snapshot}
use Rattle.pictures.specs.Rows.{picture_of, Valid}

abbrev pub shown : Size → Snapshot → Picture
shown size shot = picture_of size.rows size.columns shot.cells.now shot.cursor.row shot.cursor.column

abbrev pub IsShown : Size → Snapshot → Type 0
IsShown size shot = Valid size.rows size.columns shot.cells.now shot.cursor.row shot.cursor.column
