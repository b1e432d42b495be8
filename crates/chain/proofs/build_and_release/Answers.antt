use Rattle.std.proofs.Common.{[]}
use Rattle.chain.specs.Chains.{chained}
use Rattle.chain.proofs.build_and_release.Goals as goal

pub returns : goal.returns
returns g c = c.release.ensures.released.have (chained c.build-list.result.cells) [] c.build-list.ensures.built.have
