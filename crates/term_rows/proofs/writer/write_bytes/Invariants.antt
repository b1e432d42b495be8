use Rattle.std.proofs.Common.{◌≡◌, ◌+◌, ◌++◌, length, take}
use Rattle.term_rows.proofs.writer.write_bytes.Given as goal

abbrev pub invariant-loop-b : goal.invariant-loop-b
invariant-loop-b g l =
    (g.W.ByteWriter.written l.writer ≡ g.W.ByteWriter.written l.initial.writer ++ take l.b-index l.bytes)
    × (length (g.W.ByteWriter.written l.writer) ≡ length (g.W.ByteWriter.written l.initial.writer) + l.b-index)
    × (g.W.ByteWriter.lent l.writer ≡ g.W.ByteWriter.lent l.initial.writer)
