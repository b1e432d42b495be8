use Rattle.std.proofs.Common.{◌≡◌, ℕ, ◌+◌, ◌*◌, ◌≤◌, List, length}
use Rattle.terminals.specs.Progress.{pending_from, visited, Sent}
use Rattle.term.proofs.drawing.redraw_upper.Given as goal

abbrev pub invariant-loop-row : goal.invariant-loop-row
invariant-loop-row g l =
    ((start : List ℕ) → Sent start (g.W.ByteWriter.written l.initial.writer) (length l.initial.old) (g.C.Change.scene l.initial.change).before (g.C.Change.scene l.initial.change).after (pending_from l.last l.cursor_row 0) l.initial.at.row l.initial.at.column → Sent start (g.W.ByteWriter.written l.writer) (length l.initial.old) (g.C.Change.scene l.initial.change).before (g.C.Change.scene l.initial.change).after (pending_from l.last l.cursor_row l.row) l.at.row l.at.column)
    × (g.C.Change.scene l.change ≡ g.C.Change.scene l.initial.change)
    × g.C.Change.ready l.change
    × (g.C.Change.touched l.change + visited l.last l.cursor_row 0 * (2 * (g.C.Change.scene l.initial.change).row_touches) ≤ g.C.Change.touched l.initial.change + visited l.last l.cursor_row l.row * (2 * (g.C.Change.scene l.initial.change).row_touches))
    × (g.W.ByteWriter.lent l.writer ≡ g.W.ByteWriter.lent l.initial.writer)
