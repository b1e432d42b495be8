use Rattle.std.proofs.Common.{◌≡◌}
use Rattle.plain_lines.proofs.text.Place.nth_line.Given as goal

abbrev pub invariant-loop : goal.invariant-loop
invariant-loop l = l.start.text.now ≡ l.self.text.now
