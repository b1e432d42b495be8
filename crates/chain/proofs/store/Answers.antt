use Rattle.std.proofs.Common.{set, ap, ◌∙◌}
use Rattle.chain.proofs.Storing.{pair_share, pair_open, pair_left, pair_right, pair_stored, pair_upper}
use Rattle.chain.proofs.store.Goals as goal

pub share-requires : goal.share-requires
share-requires g c = pair_share _ _ c.requires

pub open-node-requires : goal.open-node-requires
open-node-requires g c = pair_open _ _ _ _ c.share.ensures.shared c.set_root.ensures.stays c.requires

pub release-requires : goal.release-requires
release-requires g c = pair_left _ _ _ _ c.share.ensures.shared c.set_root.ensures.stays _ _ _ _ c.open-node.ensures.opened c.requires

pub release-requires-2 : goal.release-requires-2
release-requires-2 g c =
    pair_right _ _ _ _ c.share.ensures.shared c.set_root.ensures.stays _ _ _ _ c.open-node.ensures.opened _ c.release.ensures.released c.requires

pub returns : goal.returns
returns g c =
    record {
      long =
          c.release-2.ensures.kept.long ∙ c.release.ensures.kept.long ∙ c.open-node.ensures.kept.long
          ∙ c.set_root.ensures.stays.long ∙ c.share.ensures.kept.long;
      have = pair_stored _ _ _ _ c.share.ensures.shared c.set_root.ensures.stays _ _ _ _ c.open-node.ensures.opened _ c.release.ensures.released _ c.release-2.ensures.released;
      upper = pair_upper _ _ _ _ c.share.ensures.shared c.set_root.ensures.stays _ _ _ _ c.open-node.ensures.opened;
      state =
          c.release-2.ensures.kept.state ∙ c.release.ensures.kept.state ∙ c.open-node.ensures.kept.state
          ∙ c.set_root.ensures.state ∙ ap (λ z. set z 0 c.args.p.0) c.share.ensures.kept.state;
    }
