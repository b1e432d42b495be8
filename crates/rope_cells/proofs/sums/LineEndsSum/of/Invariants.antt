use Rattle.std.proofs.Common.{◌≡◌, ◌≤◌, take}
use Rattle.spec.specs.Text.{newlines}
use Rattle.rope_cells.proofs.sums.LineEndsSum.of.Given as goal

abbrev pub invariant-loop-b : goal.invariant-loop-b
invariant-loop-b l = (l.n ≡ newlines (take l.b-index l.part)) × (l.n ≤ l.b-index)
