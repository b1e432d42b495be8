use Rattle.std.proofs.Common.{ap, ◌∙◌, arith}
use Rattle.ropes.specs.Rope.{bytes}
use Rattle.ropes.specs.Layout.{sum_at}
use Rattle.rope_cells.proofs.reading.sum.Goals as goal

pub total-requires-clause-place : goal.total-requires-clause-place
total-requires-clause-place g c = omega (arith, c.PLACE.ensures, g.met.S.Sum.known)

pub returns-clause-value : goal.returns-clause-value
returns-clause-value g c = λ x. c.total.ensures.value x ∙ (ap (sum_at (bytes x.rope)) c.PLACE.ensures ∙ g.met.S.Sum.stands (bytes x.rope))
