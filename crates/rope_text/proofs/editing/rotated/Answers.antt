use Rattle.rope_text.proofs.Holdings.{stands_sharing, cutting, uncut, rotating, rotated_offered}
use Rattle.rope_text.proofs.editing.rotated.Goals as goal

pub share-requires : goal.share-requires
share-requires g c = stands_sharing c.requires

pub split-requires : goal.split-requires
split-requires g c = cutting c.requires c.share.ensures.shared

pub returns-in_err-cut : goal.returns-in_err-cut
returns-in_err-cut g c = rw c.from_residual.ensures (uncut c.requires c.share.ensures.shared c.in_err-cut.ensures.cuts)

pub concat-requires : goal.concat-requires
concat-requires g c = rotating c.requires c.share.ensures.shared c.in_ok-cut.ensures.cuts

pub returns : goal.returns
returns g c = rotated_offered c.requires c.share.ensures.shared c.in_ok-cut.ensures.cuts _ c.concat.ensures.joins
