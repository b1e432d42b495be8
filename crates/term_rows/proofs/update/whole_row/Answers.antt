use Rattle.std.proofs.Common.{rules}
use Rattle.term_rows.proofs.Cells.{shortest_whole}
use Rattle.term_rows.proofs.update.whole_row.Goals as goal

pub returns-clause-whole : goal.returns-clause-whole
returns-clause-whole c = shortest_whole c.args.new.now c.blank_from.result _ _ c.requires c.blank_from.ensures.within c.blank_from.ensures.blanks c.blank_from.ensures.inked (search rules)
