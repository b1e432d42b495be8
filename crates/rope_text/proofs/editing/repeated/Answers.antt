use Rattle.rope_text.proofs.Holdings.{stands_sharing, repeating, repeated_offered}
use Rattle.rope_text.proofs.editing.repeated.Goals as goal

pub share-requires : goal.share-requires
share-requires g c = stands_sharing c.requires.rope

pub repeat-requires : goal.repeat-requires
repeat-requires g c = repeating c.requires.rope c.share.ensures.shared c.args.n c.requires.few

pub returns : goal.returns
returns g c = repeated_offered c.requires.rope c.share.ensures.shared c.args.n c.requires.few c.ranges.n.fits _ c.repeat.ensures.repeated
