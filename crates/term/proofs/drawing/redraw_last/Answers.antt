use Rattle.term.proofs.Sequels.{last_skipped, last_sent, last_touches}
use Rattle.term.proofs.drawing.redraw_last.Goals as goal

pub returns-then-last-cursor_row-clause-says : goal.returns-then-last-cursor_row-clause-says
returns-then-last-cursor_row-clause-says g c = last_skipped _ _ c.args.last c.args.cursor_row _ c.cursor_before-at.result c.requires.pictures c.if-last-cursor_row.true c.cursor_before-at.ensures.row c.cursor_before-at.ensures.column

pub returns-clause-says : goal.returns-clause-says
returns-clause-says g c = last_sent _ _ _ _ c.args.last c.args.cursor_row _ c.cursor_before-at.result c.redraw_row.result c.requires.pictures c.requires.within c.if-last-cursor_row.false c.cursor_before-at.ensures.row c.cursor_before-at.ensures.column c.redraw_row.ensures.says

pub returns-clause-touches : goal.returns-clause-touches
returns-clause-touches g c = last_touches c.args.last c.args.cursor_row _ _ _ c.if-last-cursor_row.false c.redraw_row.ensures.touches
