use Rattle.std.proofs.Common.{◌≡◌, ◌*◌, Some, None, ap, ◌∙◌}
use Rattle.term.specs.Scene.{Scene}
use Rattle.term_rows.specs.Lent.{Lent}
use Rattle.term.proofs.Upper.{row_says, upper_row, upper_skip, upper_refused, touches_row, touches_skip, touches_refused}
use Rattle.term.proofs.drawing.redraw_upper.Goals as goal
use Rattle.term.proofs.drawing.redraw_upper.Goals.{then-row-cursor_row+in_ok-at, else-row-cursor_row}

pub returns-in_err-at-clause-says : goal.returns-in_err-at-clause-says
returns-in_err-at-clause-says g c =
    let s : Scene = g.C.Change.scene c.args.change.now in
    let w = row_says _ (g.W.ByteWriter.written c.redraw_row.new.writer) _ _ _ c.loop-row.row _ s c.loop-row.at None c.loop-row.auto.old c.loop-row.invariant.1 c.in_err-at.ensures.says in
    rw c.from_residual.ensures (upper_refused _ _ _ s c.requires.pictures c.requires.within _ _ _ _ c.loop-row.row _ _ _ c.loop-row-test.true c.if-row-cursor_row.true c.loop-row.invariant.0 (rw (ap (λ (x : Lent). x.capacity) c.loop-row.invariant.4) at w))

pub returns-in_err-at-clause-touches : goal.returns-in_err-at-clause-touches
returns-in_err-at-clause-touches g c = touches_refused c.args.last c.args.cursor_row c.loop-row.row _ _ _ _ _ _ c.loop-row-test.true c.if-row-cursor_row.true (ap (λ (x : Scene). 2 * x.row_touches) c.loop-row.invariant.1) c.loop-row.invariant.3 c.in_err-at.ensures.touches

pub loop-row-preserved : goal.loop-row-preserved
loop-row-preserved g c =
    let s : Scene = g.C.Change.scene c.args.change.now in
    let e : g.C.Change.scene c.loop-row.change ≡ s = c.loop-row.invariant.1 in
    elim c.if-row-cursor_row.branch [
      | then-row-cursor_row+in_ok-at w ↦
          let o = w.in_ok-at.ensures in
          let q = row_says _ (g.W.ByteWriter.written w.redraw_row.new.writer) 0 _ _ c.loop-row.row _ s c.loop-row.at (Some w.in_ok-at.at) c.loop-row.auto.old e o.says in
          rw (w.change-is, w.writer-is, w.at-is) (
            upper_row _ _ _ s c.requires.pictures c.requires.within _ _ _ _ _ c.loop-row.row _ _ _ _ c.loop-row-test.true w.if-row-cursor_row.true c.loop-row.invariant.0 q,
            o.stays ∙ e,
            o.still_ready,
            touches_row c.args.last c.args.cursor_row c.loop-row.row _ _ _ _ _ _ c.loop-row-test.true w.if-row-cursor_row.true (ap (λ (x : Scene). 2 * x.row_touches) e) c.loop-row.invariant.3 o.touches,
            o.same ∙ c.loop-row.invariant.4,
          )
      | else-row-cursor_row w ↦
          rw (w.change-is, w.writer-is, w.at-is) (
            upper_skip _ _ _ s c.requires.pictures c.requires.within _ _ _ _ c.loop-row.row _ _ w.if-row-cursor_row.false c.loop-row.invariant.0,
            e,
            c.loop-row.invariant.2,
            touches_skip c.args.last c.args.cursor_row c.loop-row.row _ _ _ _ c.loop-row-test.true w.if-row-cursor_row.false c.loop-row.invariant.3,
            c.loop-row.invariant.4,
          )
    ]
