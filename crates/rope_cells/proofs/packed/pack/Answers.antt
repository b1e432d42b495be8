use Rattle.std.proofs.Common.{◌≡◌, ℕ, ◌<◌, get_or, rules}
use Rattle.ropes.specs.Layout.{word_at}
use Rattle.ropes.proofs.Bytes.{octets_each}
use Rattle.rope_cells.proofs.Packings.{leaf_data_is}
use Rattle.rope_cells.proofs.packed.pack.Goals as goal

pub returns-clause-value : goal.returns-clause-value
returns-clause-value c =
    let each : (j : ℕ) → j < 12 → get_or c.from_fn-words.result j 0 ≡ word_at c.args.bytes.now j = search rules in
    rw c.copy_from_slice.ensures.after (leaf_data_is c.args.bytes.now _ _ c.leaf_tag.ensures c.from_fn-words.ensures.items.long each)

pub returns-clause-octets : goal.returns-clause-octets
returns-clause-octets c = octets_each c.args.bytes.now (λ i h. (c.type_inv.bytes i).fits)
