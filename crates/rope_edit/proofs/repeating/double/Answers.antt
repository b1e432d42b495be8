use Rattle.rope_edit.proofs.Repeats.{twice_sharing, twice_two, doubles}
use Rattle.rope_edit.proofs.repeating.double.Goals as goal

pub share-requires : goal.share-requires
share-requires g c = twice_sharing c.requires

pub concat-requires : goal.concat-requires
concat-requires g c =
    let s = c.share.ensures in
    twice_two s.shared s.kept.long _ s.touches c.requires

pub returns-clause-doubles : goal.returns-clause-doubles
returns-clause-doubles g c =
    let s = c.share.ensures in
    doubles s.shared s.kept.long _ s.touches c.concat.ensures.joins
