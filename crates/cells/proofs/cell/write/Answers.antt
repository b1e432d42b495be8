use Rattle.std.proofs.Common.{length-set, rules}
use Rattle.cells.specs.Layout.{put}
use Rattle.cells.proofs.cell.write.Goals as goal

pub returns : goal.returns
unfolding put
returns g c = search (rules, length-set)
