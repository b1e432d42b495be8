use Rattle.std.proofs.Common.{rules}
use Rattle.cells.proofs.Rows.{state_set}
use Rattle.cells.proofs.Headers.{stays}
use Rattle.cells.proofs.header.set_state_word.Goals as goal

pub returns : goal.returns
returns g c =
    let m = g.W.Words.row c.args.words.now in
    let i = c.args.i in
    let x = c.args.x in
    record {
      state = rw c.put.ensures.written (state_set m i x c.requires.word);
      stays = rw c.put.ensures.written (stays m i x c.requires.word);
      touches = search rules;
    }
