use Rattle.std.proofs.Common.{[], ◌∷◌, ◌++◌, arith}
use Rattle.std.proofs.lemmas.Fn.{FoldsTo-push}
use Rattle.std.proofs.lemmas.List.{length_push}
use Rattle.plain_lines.proofs.text.Place.repeated.Goals as goal

pub loop-preserved : goal.loop-preserved
loop-preserved g c =
    let led = c.loop.invariant in
    (led.0 ++ tt ∷ [], omega (arith, length_push led.0 tt), FoldsTo-push _ _ led.0 _ tt _ led.2 c.step-next.ensures)
