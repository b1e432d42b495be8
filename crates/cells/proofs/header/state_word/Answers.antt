use Rattle.std.proofs.Common.{◌∙◌, rules}
use Rattle.cells.proofs.Rows.{state_word}
use Rattle.cells.proofs.header.state_word.Goals as goal

pub returns : goal.returns
returns g c =
    record {
      value = c.get.ensures.value ∙ state_word _ c.args.i c.requires.word;
      same = search rules;
      touches = search rules;
    }
