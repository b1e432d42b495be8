use Rattle.std.proofs.Common.{◌≡◌, ◌+◌, ◌-◌, ◌*◌, arith}
use Rattle.rope_cells.proofs.Packings.{four_more, bytes_back}
use Rattle.rope_cells.proofs.packed.unpack.Goals as goal

pub loop-k-preserved : goal.loop-k-preserved
loop-k-preserved c =
    let inv = c.loop-k.invariant in
    let k = c.loop-k.k in
    let n : 4 * k + 4 - 4 * k ≡ 4 = omega arith in
    rw (n, c.copy_from_slice.ensures.after) (four_more c.args.words.now c.loop-k.bytes _ k inv.0 c.loop-k-test.true c.to_le_bytes.ensures inv.1)

pub returns : goal.returns
returns c = λ xs few o is.
    bytes_back c.args.words.now xs _ c.loop-k.invariant.0 (λ j h. c.loop-k.invariant.1 j (omega (arith, c.loop-k-test.false))) c.min.ensures few o is
