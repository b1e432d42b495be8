use Rattle.rope_text.proofs.Holdings.{unbuilt, built, beside_sharing, replacing, replaced_offered}
use Rattle.rope_text.proofs.editing.replaced.Goals as goal

pub returns-in_err-new : goal.returns-in_err-new
returns-in_err-new g c = rw c.from_residual.ensures (unbuilt c.requires.rope c.requires.few c.in_err-new.ensures.builds)

pub share-requires : goal.share-requires
share-requires g c = beside_sharing (built c.requires.rope c.requires.few c.in_ok-new.ensures.builds)

pub replace-requires : goal.replace-requires
replace-requires g c = replacing (built c.requires.rope c.requires.few c.in_ok-new.ensures.builds) c.requires.few c.share.ensures.shared

pub returns : goal.returns
returns g c =
    replaced_offered (built c.requires.rope c.requires.few c.in_ok-new.ensures.builds) c.requires.few c.share.ensures.shared c.requires.ordered _ c.replace.ensures.replaces
