use Rattle.std.proofs.Common.{rules}
use Rattle.rope_read.proofs.Texts.{inside_some, text_few}
use Rattle.rope_read.proofs.points.byte_at.Goals as goal

pub overflow_add-at : goal.overflow_add-at
overflow_add-at g c =
    let inside = c.requires.inside in
    let few = text_few _ _ c.requires.rope in
    search rules

pub locate-spot-requires-clause-rope : goal.locate-spot-requires-clause-rope
locate-spot-requires-clause-rope g c = inside_some _ _ c.args.at c.requires.rope c.requires.inside
