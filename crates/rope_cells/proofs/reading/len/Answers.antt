use Rattle.std.proofs.Common.{sym, ◌∙◌}
use Rattle.ropes.proofs.Cuts.{size_bytes}
use Rattle.rope_cells.proofs.reading.len.Goals as goal

pub returns-clause-value : goal.returns-clause-value
returns-clause-value g c = λ x. c.sum.ensures.value x ∙ sym (size_bytes x.rope)
