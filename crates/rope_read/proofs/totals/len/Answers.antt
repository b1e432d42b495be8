use Rattle.std.proofs.Common.{length, sym, ap, ◌∙◌, arith}
use Rattle.ropes.proofs.Cuts.{size_bytes}
use Rattle.rope_read.proofs.Texts.{text_is}
use Rattle.rope_read.proofs.totals.len.Goals as goal

pub returns : goal.returns
returns g c =
    let x = c.requires.rope in
    let is = c.len.ensures.value x in
    record {
      value = is ∙ (size_bytes x.rope ∙ ap length (sym (text_is _ _ x)));
      few = omega (arith, is, x.few);
      same = c.len.ensures.same;
      touches = c.len.ensures.touches;
    }
