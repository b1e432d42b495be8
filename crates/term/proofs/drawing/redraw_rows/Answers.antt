use Rattle.std.proofs.Common.{ℕ, ◌-◌, ◌*◌, Some, ap, ◌∙◌, arith}
use Rattle.term.specs.Scene.{Scene}
use Rattle.term_rows.specs.Lent.{Lent}
use Rattle.term.proofs.Upper.{row_says}
use Rattle.term.proofs.Sequels.{upper_says, cursor_sent, touches_of_last, touches_of_upper, touches_below, touches_of_all}
use Rattle.term.proofs.drawing.redraw_rows.Goals as goal

pub returns-in_err-start-clause-touches : goal.returns-in_err-start-clause-touches
returns-in_err-start-clause-touches g c = touches_of_last (c.rows-last.result - 1) c.cursor_after-cursor.result.row _ _ _ _ (omega (arith, c.requires.pictures.after.row_within)) c.in_err-start.ensures.touches

pub returns-in_err-at-clause-touches : goal.returns-in_err-at-clause-touches
returns-in_err-at-clause-touches g c =
    let within = c.requires.pictures.after.row_within in
    let bottom : ℕ = c.rows-last.result - 1 in
    let a = c.in_ok-start.ensures in
    touches_below bottom _ _ _ _ (omega (arith, c.rows-last.ensures, within)) (touches_of_upper bottom c.cursor_after-cursor.result.row _ _ _ _ _ (omega (arith, c.cursor_after-cursor.ensures.row, c.rows-last.ensures, within)) (ap (λ (x : Scene). 2 * x.row_touches) a.stays) a.touches c.in_err-at.ensures.touches)

pub returns-clause-says : goal.returns-clause-says
returns-clause-says g c =
    let s : Scene = g.C.Change.scene c.args.change.now in
    let pictures = c.requires.pictures in
    let bottom : ℕ = c.rows-last.result - 1 in
    let a = c.in_ok-start.ensures in
    let o = c.in_ok-at.ensures in
    let u = upper_says _ (g.W.ByteWriter.written c.redraw_upper.new.writer) _ _ _ _ bottom c.cursor_after-cursor.result.row _ s c.in_ok-start.start (Some c.in_ok-at.at) (ap (λ (x : Lent). x.capacity) a.same) c.redraw_last.auto.old a.stays o.says in
    let w = row_says _ (g.W.ByteWriter.written c.redraw_row.new.writer) _ _ _ c.cursor_after-cursor.result.row _ s c.in_ok-at.at c.redraw_row.result (c.redraw_upper.auto.old ∙ c.redraw_last.auto.old) (o.stays ∙ a.stays) c.redraw_row.ensures.says in
    cursor_sent _ _ (g.W.ByteWriter.written c.redraw_row.new.writer) _ _ _ bottom c.cursor_after-cursor.result.row s c.in_ok-at.at c.redraw_row.result pictures (omega (arith, c.rows-last.ensures, pictures.after.row_within)) c.cursor_after-cursor.ensures.row (ap (λ (x : Lent). x.capacity) (o.same ∙ a.same)) (u (g.W.ByteWriter.written c.args.writer.now) a.says) w

pub returns-clause-touches : goal.returns-clause-touches
returns-clause-touches g c =
    let within = c.requires.pictures.after.row_within in
    let bottom : ℕ = c.rows-last.result - 1 in
    let a = c.in_ok-start.ensures in
    let o = c.in_ok-at.ensures in
    touches_of_all bottom _ _ _ _ _ _ (omega (arith, c.rows-last.ensures, within)) (ap (λ (x : Scene). 2 * x.row_touches) (o.stays ∙ a.stays)) (touches_of_upper bottom c.cursor_after-cursor.result.row _ _ _ _ _ (omega (arith, c.cursor_after-cursor.ensures.row, c.rows-last.ensures, within)) (ap (λ (x : Scene). 2 * x.row_touches) a.stays) a.touches o.touches) c.redraw_row.ensures.touches
