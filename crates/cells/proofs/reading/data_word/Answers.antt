use Rattle.std.proofs.Common.{get_or, ap, ◌∙◌}
use Rattle.cells.proofs.Rows.{at_data}
use Rattle.cells.proofs.reading.data_word.Goals as goal

pub returns : goal.returns
returns g c =
    let m = g.W.Words.row c.args.words.now in
    let k = c.args.k in
    record {
      value = record { is = λ u v w h. c.load_word.ensures.value ∙ at_data m c.args.p.0 k ∙ ap (λ z. get_or z k 0) h.3 };
      same = c.load_word.ensures.same;
      touches = c.load_word.ensures.touches;
    }
