use Rattle.std.proofs.Common.{sym}
use Rattle.rope_cells.proofs.Codes.{small_leaf}
use Rattle.rope_cells.proofs.reading.shape_of.Goals as goal

pub returns-in-Leaf-clause-value : goal.returns-in-Leaf-clause-value
returns-in-Leaf-clause-value g c = λ x.
    let tag = c.in-Leaf.ensures.value x in
    record { high = sym tag.0; little = small_leaf x.lends.rope _ _ x.lends.whole tag.0 tag.1 c.digit_of.ensures }
