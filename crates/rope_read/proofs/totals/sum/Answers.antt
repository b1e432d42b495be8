use Rattle.std.proofs.Common.{sym, ap, ◌∙◌}
use Rattle.rope_read.proofs.Texts.{text_is}
use Rattle.rope_read.proofs.totals.sum.Goals as goal

pub returns : goal.returns
returns g c =
    record {
      value = c.sum.ensures.value c.requires.rope ∙ ap g.S.Sum.sums (sym (text_is _ _ c.requires.rope));
      same = c.sum.ensures.same;
      touches = c.sum.ensures.touches;
    }
