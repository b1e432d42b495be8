use Rattle.rope_cells.proofs.Codes.{tag_node, tag_leaf}
use Rattle.rope_cells.proofs.reading.told.Goals as goal

pub returns-then-word-eq-NODE-clause-value : goal.returns-then-word-eq-NODE-clause-value
returns-then-word-eq-NODE-clause-value g c = λ x. tag_node x.lends.rope _ x.lends.whole x.some (c.tag_of-word.ensures.value x) c.if-word-eq-NODE.true

pub returns-else-word-eq-NODE-clause-value : goal.returns-else-word-eq-NODE-clause-value
returns-else-word-eq-NODE-clause-value g c = λ x. tag_leaf x.lends.rope _ x.lends.whole x.some (c.tag_of-word.ensures.value x) c.if-word-eq-NODE.false
