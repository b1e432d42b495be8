use Rattle.std.proofs.Common.{ap, ◌∙◌, arith}
use Rattle.ropes.specs.Rope.{bytes}
use Rattle.ropes.specs.Layout.{sum_at}
use Rattle.rope_cells.proofs.reading.left_sum.Goals as goal

pub left_total-requires-clause-place : goal.left_total-requires-clause-place
left_total-requires-clause-place g c = omega (arith, c.PLACE.ensures, g.met.S.Sum.known)

pub returns-clause-value : goal.returns-clause-value
returns-clause-value g c = λ x. c.left_total.ensures.value x ∙ (ap (sum_at (bytes x.left)) c.PLACE.ensures ∙ g.met.S.Sum.stands (bytes x.left))
