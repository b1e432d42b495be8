use Rattle.rope.proofs.Merges.{spread_one, spread_fit, spread_none, spread_two, spread_node}
use Rattle.rope.proofs.merging.spread.Goals as goal

pub returns-then-bytes-le-LEAF_MAX-clause-spreads : goal.returns-then-bytes-le-LEAF_MAX-clause-spreads
returns-then-bytes-le-LEAF_MAX-clause-spreads g c = spread_one c.if-bytes-le-LEAF_MAX.true c.leaf.ensures.leafed

pub returns-in_err-halves-clause-spreads : goal.returns-in_err-halves-clause-spreads
returns-in_err-halves-clause-spreads g c = rw c.from_residual.ensures (spread_none c.in_err-halves.ensures.leaves)

pub node-requires : goal.node-requires
node-requires g c =
    let s = c.split_at.ensures in
    let made = c.in_ok-halves.ensures in
    spread_two made.leaves (spread_fit c.args.bytes.now c.if-bytes-le-LEAF_MAX.false c.requires.few s.front s.back made.octets) c.requires.heap

pub returns-clause-spreads : goal.returns-clause-spreads
returns-clause-spreads g c =
    let s = c.split_at.ensures in
    let more = c.if-bytes-le-LEAF_MAX.false in
    let made = c.in_ok-halves.ensures in
    spread_node made.leaves (spread_fit c.args.bytes.now more c.requires.few s.front s.back made.octets) more s.front s.back c.node.ensures.joins made.kept.long
