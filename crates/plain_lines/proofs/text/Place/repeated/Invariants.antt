use Rattle.std.proofs.Common.{◌≤◌, List, length}
use Rattle.std.specs.List.{FoldsTo}
use Rattle.plain_lines.proofs.text.Place.repeated.Given as goal

abbrev pub invariant-loop : goal.invariant-loop
invariant-loop g l =
    (steps : List (Unit {0})) × (length steps ≤ l.counter) × FoldsTo (λ p _ q. goal.F-post g l.step p q) l.self steps l.place
