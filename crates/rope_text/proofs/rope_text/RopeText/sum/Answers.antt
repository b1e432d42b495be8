use Rattle.std.proofs.Common.{ap, arith}
use Rattle.rope_text.proofs.Holdings.{stands_lends}
use Rattle.rope_text.proofs.rope_text.RopeText.sum.Goals as goal

pub sum-requires : goal.sum-requires
sum-requires g c = record { rope = stands_lends c.self.invariant }

pub returns-clause-small : goal.returns-clause-small
returns-clause-small g c = omega (arith, c.sum.ensures.value, ap g.S.Sum.sums c.self.view_is, g.met.S.Sum.small c.args.self.now)
