use Rattle.std.proofs.Common.{rules}
use Rattle.cells.proofs.Rows.{at_word}
use Rattle.cells.proofs.cell.word.Goals as goal

pub returns : goal.returns
returns g c = search (rules, at_word)
