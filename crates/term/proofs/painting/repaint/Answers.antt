use Rattle.std.proofs.Common.{◌≡◌, ℕ, ◌+◌, [], length, take, ap, ◌∙◌, arith, rules}
use Rattle.terminals.specs.Painting.{from_row, PaintSent, Painted}
use Rattle.terminals.proofs.Painting.{paint_begun, painted, painted_front}
use Rattle.term.specs.Scene.{Scene}
use Rattle.term_rows.specs.Lent.{Lent}
use Rattle.term.proofs.Sequels.{step_to}
use Rattle.term.proofs.Paints.{paint_says, long_says}
use Rattle.term.proofs.painting.repaint.Goals as goal

pub returns-clause-says : goal.returns-clause-says
returns-clause-says g c =
    let s : Scene = g.C.Change.scene c.args.change.now in
    let rows : ℕ = length s.before.rows in
    let columns : ℕ = length c.args.new.now in
    let e : c.rows-rows.result ≡ rows = c.rows-rows.ensures in
    let h = c.repaint_rows-at.ensures in
    let row : _ ≡ s.after.cursor_row = ap (λ (x : Scene). x.after.cursor_row) h.stays in
    let column : _ ≡ s.after.cursor_column = ap (λ (x : Scene). x.after.cursor_column) h.stays in
    let begun : PaintSent [] (take c.begin_painting.new.writer.used c.begin_painting.new.writer.bytes.now) rows columns s.after (from_row 0) 0 0 = paint_begun [] _ rows columns s.after c.requires.picture c.begin_painting.ensures.says in
    let sent : PaintSent [] (take c.repaint_rows-at.new.writer.used c.repaint_rows-at.new.writer.bytes.now) rows columns s.after (from_row rows) c.repaint_rows-at.result.row c.repaint_rows-at.result.column = paint_says _ _ _ rows columns s.after c.repaint_rows-at.result e h.says [] begun in
    let long = long_says _ _ _ rows (16 + columns) e h.long in
    let d : Painted [] (take c.place_cursor.new.writer.used c.place_cursor.new.writer.bytes.now) rows columns s.after =
    painted [] _ _ rows columns s.after rows c.repaint_rows-at.result.row c.repaint_rows-at.result.column c.requires.picture (omega arith) sent (step_to _ _ c.repaint_rows-at.result.row c.repaint_rows-at.result.column _ _ _ _ c.place_cursor.ensures.says row column) in
    painted_front _ c.place_cursor.new.writer.bytes.now c.place_cursor.new.writer.used _ _ _ _ _ (search rules) d c.count.ensures (ap (λ (x : Lent). x.capacity) (c.place_cursor.ensures.same ∙ h.same ∙ c.begin_painting.ensures.same)) (omega (arith, c.count.ensures, c.place_cursor.ensures.long, long, c.begin_painting.ensures.long))
