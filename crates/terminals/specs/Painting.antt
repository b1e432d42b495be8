-- Drawing a whole picture on a terminal of which only the size is known.
use Rattle.std.specs.Prelude.{◌≡◌, ℕ, ◌<◌, ◌≤◌, Bool, List, ◌++◌, length, take, Some, None, Option, nat_le}
use Rattle.spec.specs.Screen.{Row, Picture}
use Rattle.spec.specs.Terminal.{Terminal, feed}
use Rattle.spec.specs.Promises.{Shows, Sized, Paints, paint_cost}
use Rattle.terminals.specs.Drawing.{showing, TurnsRow}
use Rattle.terminals.specs.Progress.{mixed}

-- the rows from i on
abbrev pub from_row : ℕ → ℕ → Bool
from_row i k = nat_le i k

-- What was sent for row i, whatever stood there.
pub record RowPainted (first last : List ℕ) (rows columns i : ℕ) (new : Row) (r c r' c' : ℕ) : Type 0 where
  pub bytes : List ℕ
  pub appended : last ≡ first ++ bytes
  pub turns : (old : Row) → length old ≡ columns → TurnsRow rows columns i old new r c r' c' bytes

-- What was sent so far.
pub record PaintSent (first last : List ℕ) (rows columns : ℕ) (after : Picture) (pending : ℕ → Bool) (r c : ℕ) : Type 0 where
  pub bytes : List ℕ
  pub appended : last ≡ first ++ bytes
  pub leads : (t : Terminal) → Sized t rows columns → Shows (feed t bytes) (showing (mixed pending t.grid after.rows) r c)

pub record Painted (first last : List ℕ) (rows columns : ℕ) (after : Picture) : Type 0 where
  pub bytes : List ℕ
  pub appended : last ≡ first ++ bytes
  pub paints : Paints rows columns after bytes

-- What a repaint promises of the output lent, of o bytes, which then begins with bs: n bytes are to be sent; or it is refused, since there is
-- less room than a screen may cost.
pub record RepaintDone (rows columns : ℕ) (after : Picture) (o : ℕ) (bs : List ℕ) (n : ℕ) : Type 0 where
  pub paints : Paints rows columns after (take n bs)
  pub fits : n ≤ o
  pub cheap : n ≤ paint_cost rows columns

abbrev pub RepaintSays : ℕ → ℕ → Picture → ℕ → List ℕ → Option ℕ → Type 0
RepaintSays rows columns after o bs (Some n) = RepaintDone rows columns after o bs n
RepaintSays rows columns after o bs None = o < paint_cost rows columns
