-- What a change of picture is about.
use Rattle.std.specs.Prelude.{ℕ, List, length}
use Rattle.spec.specs.Screen.{Picture}
use Rattle.terminals.specs.Drawing.{Rectangle, Drawable}

-- the picture that stands on the screen and the one that shall, how many words reading a row touches at most, and what else reading leaves as it is
pub record Scene : Type 0 where
  pub before : Picture
  pub after : Picture
  pub row_touches : ℕ
  pub kept : List ℕ

-- pictures of one size, the one to come drawable
pub record Redrawable (columns : ℕ) (s : Scene) : Type 0 where
  pub before : Rectangle (length s.before.rows) columns s.before.rows
  pub after : Drawable (length s.before.rows) columns s.after
