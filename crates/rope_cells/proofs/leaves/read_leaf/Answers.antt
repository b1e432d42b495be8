use Rattle.rope_cells.proofs.Codes.{leaf_read}
use Rattle.rope_cells.proofs.Packings.{leaf_items, items_few}
use Rattle.rope_cells.proofs.leaves.read_leaf.Goals as goal

pub returns-clause-value : goal.returns-clause-value
returns-clause-value g c = λ x. let w = leaf_read _ _ _ c.data_words.ensures.value x in leaf_items c.unpack.result x.xs (c.unpack.ensures x.xs w.0 w.1 w.2)

pub returns-clause-zeros : goal.returns-clause-zeros
returns-clause-zeros g c = λ x. let w = leaf_read _ _ _ c.data_words.ensures.value x in c.unpack.ensures x.xs w.0 w.1 w.2

pub returns-clause-few : goal.returns-clause-few
returns-clause-few g c = items_few c.unpack.result
