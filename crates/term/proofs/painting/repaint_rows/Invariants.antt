use Rattle.std.proofs.Common.{◌≡◌, ℕ, ◌+◌, ◌*◌, ◌≤◌, List, length}
use Rattle.terminals.specs.Painting.{from_row, PaintSent}
use Rattle.term.proofs.painting.repaint_rows.Given as goal

abbrev pub invariant-loop-row : goal.invariant-loop-row
invariant-loop-row g l =
    ((start : List ℕ) → PaintSent start (g.W.ByteWriter.written l.initial.writer) l.rows (length l.initial.new) (g.C.Change.scene l.initial.change).after (from_row 0) l.initial.at.row l.initial.at.column → PaintSent start (g.W.ByteWriter.written l.writer) l.rows (length l.initial.new) (g.C.Change.scene l.initial.change).after (from_row l.row) l.at.row l.at.column)
    × (length (g.W.ByteWriter.written l.writer) ≤ length (g.W.ByteWriter.written l.initial.writer) + l.row * (16 + length l.initial.new))
    × (g.C.Change.scene l.change ≡ g.C.Change.scene l.initial.change)
    × g.C.Change.ready l.change
    × (g.C.Change.touched l.change ≤ g.C.Change.touched l.initial.change + l.row * (g.C.Change.scene l.initial.change).row_touches)
    × (g.W.ByteWriter.lent l.writer ≡ g.W.ByteWriter.lent l.initial.writer)
