use Rattle.std.proofs.Common.{rules}
use Rattle.cells.specs.Steps.{Kept, Shared}
use Rattle.cells.proofs.Sharings.{kept_on}
use Rattle.cells.proofs.Openings.{open_within, share_right, share_left, release_node, parted}
use Rattle.cells.proofs.making.part.Goals as goal

pub children_of-old-requires : goal.children_of-old-requires
children_of-old-requires g c = record { within = open_within _ _ c.requires }

pub share-requires : goal.share-requires
share-requires g c =
    let old = c.children_of-old.ensures in
    rw old.same (share_right _ _ _ _ old.left old.right c.requires)

pub share-requires-2 : goal.share-requires-2
share-requires-2 g c =
    let row = g.W.Words.row in
    let m = row c.args.words.now in
    let old = c.children_of-old.ensures in
    let one : Shared m (row c.share.new.words) c.children_of-old.result.right.0 = rw old.same at c.share.ensures.shared in
    share_left m _ _ _ old.left old.right _ one c.requires

pub release-requires : goal.release-requires
release-requires g c =
    let row = g.W.Words.row in
    let m = row c.args.words.now in
    let old = c.children_of-old.ensures in
    let one : Shared m (row c.share.new.words) c.children_of-old.result.right.0 = rw old.same at c.share.ensures.shared in
    release_node m _ _ _ old.left old.right _ one _ c.share-2.ensures.shared c.requires

pub returns : goal.returns
returns g c =
    let row = g.W.Words.row in
    let m = row c.args.words.now in
    let old = c.children_of-old.ensures in
    let one : Shared m (row c.share.new.words) c.children_of-old.result.right.0 = rw old.same at c.share.ensures.shared in
    let first : Kept m (row c.share.new.words) = rw old.same at c.share.ensures.kept in
    record {
      parted = parted m _ _ _ old.left old.right _ one _ c.share-2.ensures.shared _ c.release.ensures.released;
      kept = kept_on m _ _ first (kept_on _ _ _ c.share-2.ensures.kept c.release.ensures.kept);
      touches = search rules;
    }
