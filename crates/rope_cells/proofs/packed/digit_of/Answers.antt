use Rattle.std.proofs.Common.{◌/◌, ap, ◌∙◌}
use Rattle.ropes.proofs.Packs.{divided_none, divided_more}
use Rattle.rope_cells.proofs.packed.digit_of.Goals as goal

pub loop-init : goal.loop-init
loop-init c = divided_none c.args.tag

pub loop-preserved : goal.loop-preserved
loop-preserved c = ap (λ z. z / 64) c.loop.invariant ∙ divided_more c.args.tag c.loop.counter
