use Rattle.std.proofs.Common.{◌∙◌, ap, length}
use Rattle.rope_text.proofs.Holdings.{lending, unsliced, sliced_beside, new_lends, new_text, new_holding, beside_old}
use Rattle.rope_text.proofs.editing.slice_len.Goals as goal

pub slice-requires : goal.slice-requires
slice-requires g c = lending c.requires

pub returns-in_default-clause-stands : goal.returns-in_default-clause-stands
returns-in_default-clause-stands g c = unsliced c.requires c.in_default.ensures.slices

pub len-bytes-requires : goal.len-bytes-requires
len-bytes-requires g c = record { rope = new_lends (sliced_beside c.requires c.in-Some.ensures.slices) }

pub release-requires : goal.release-requires
release-requires g c = rw c.len-bytes.ensures.same (new_holding (sliced_beside c.requires c.in-Some.ensures.slices))

pub returns-clause-stands : goal.returns-clause-stands
returns-clause-stands g c = beside_old (sliced_beside c.requires c.in-Some.ensures.slices) (rw c.len-bytes.ensures.same at c.release.ensures.released)

pub returns-clause-value : goal.returns-clause-value
returns-clause-value g c = c.len-bytes.ensures.value ∙ ap length (new_text (sliced_beside c.requires c.in-Some.ensures.slices))
