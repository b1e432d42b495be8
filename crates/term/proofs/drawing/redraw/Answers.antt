use Rattle.std.proofs.Common.{◌≡◌, [], length, take, ap, ◌∙◌, rules}
use Rattle.terminals.specs.Progress.{Drawn}
use Rattle.terminals.proofs.Sending.{drawn, drawn_front}
use Rattle.term.specs.Scene.{Scene}
use Rattle.term_rows.specs.Lent.{Lent}
use Rattle.term.proofs.Sequels.{step_to}
use Rattle.term.proofs.drawing.redraw.Goals as goal

pub returns-clause-says : goal.returns-clause-says
returns-clause-says g c =
    let s : Scene = g.C.Change.scene c.args.change.now in
    let h = c.in_ok-at.ensures in
    let row : _ ≡ s.after.cursor_row = ap (λ (x : Scene). x.after.cursor_row) h.stays in
    let column : _ ≡ s.after.cursor_column = ap (λ (x : Scene). x.after.cursor_column) h.stays in
    let d : Drawn [] (take c.place_cursor.new.writer.used c.place_cursor.new.writer.bytes.now) (length c.args.old.now) s.before s.after =
    drawn [] _ _ (length s.before.rows) (length c.args.old.now) s.before s.after c.in_ok-at.at.row c.in_ok-at.at.column c.requires.pictures.before c.requires.pictures.after h.says
    (step_to _ _ c.in_ok-at.at.row c.in_ok-at.at.column _ _ _ _ c.place_cursor.ensures.says row column)
    c.place_cursor.ensures.long in
    drawn_front _ c.place_cursor.new.writer.bytes.now c.place_cursor.new.writer.used _ _ _ _ _ (search rules) d c.count.ensures (ap (λ (x : Lent). x.capacity) (c.place_cursor.ensures.same ∙ h.same))
