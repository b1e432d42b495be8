use Rattle.rope_text.proofs.Balances.{extent_is}
use Rattle.rope_text.proofs.balance.told.Goals as goal

pub returns-clause-value : goal.returns-clause-value
returns-clause-value g c x = extent_is (c.shape_of-height.ensures.value x).high ((rw c.shape_of-height.ensures.same at c.len-bytes.ensures.value) x.lends)
