use Rattle.std.proofs.Common.{◌≡◌, ℕ, ◌+◌, ◌*◌, ◌<◌, get_or, rules}
use Rattle.rope_cells.proofs.Packings.{word_read}
use Rattle.rope_cells.proofs.packed.word_at.Goals as goal

pub returns : goal.returns
returns c =
    let each : (j : ℕ) → j < 4 → get_or c.from_fn.result j 0 ≡ get_or c.args.bytes.now (4 * c.args.k + j) 0 = search rules in
    word_read c.args.bytes.now c.from_fn.result c.args.k _ each c.from_le_bytes.ensures
