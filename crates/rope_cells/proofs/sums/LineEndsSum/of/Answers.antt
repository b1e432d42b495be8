use Rattle.std.proofs.Common.{sym, ap, ◌∙◌, arith, take_all, rules}
use Rattle.spec.specs.Text.{newlines}
use Rattle.ropes.proofs.Sums.{newlines_none, newlines_more}
use Rattle.rope_cells.proofs.sums.LineEndsSum.of.Goals as goal

pub loop-b-init : goal.loop-b-init
loop-b-init c = (sym newlines_none, omega arith)

pub loop-b-preserved : goal.loop-b-preserved
loop-b-preserved c =
    let e = newlines_more c.args.part.now c.loop-b.b-index c.loop-b-test.true in
    search (rules, e)

pub returns : goal.returns
returns c = c.loop-b.invariant.0 ∙ ap newlines (take_all _ _ c.loop-b-test.false)
