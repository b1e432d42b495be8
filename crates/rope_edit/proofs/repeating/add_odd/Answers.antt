use Rattle.std.proofs.Common.{sym}
use Rattle.std.proofs.lemmas.Bool.{eqb-false}
use Rattle.rope_edit.proofs.Repeats.{odd_sharing, odd_two, adds_once}
use Rattle.rope_edit.proofs.repeating.add_odd.Goals as goal

pub share-requires : goal.share-requires
share-requires g c = odd_sharing c.requires

pub concat-requires : goal.concat-requires
concat-requires g c =
    let s = c.share.ensures in
    odd_two s.shared s.kept.long _ s.touches c.requires

pub returns-clause-adds : goal.returns-clause-adds
returns-clause-adds g c =
    let s = c.share.ensures in
    adds_once s.shared s.kept.long _ s.touches (eqb-false _ _ (sym c.if-is_even.ensures)) c.concat.ensures.joins
