use Rattle.std.proofs.Common.{sym, ap, ◌∙◌}
use Rattle.pictures.proofs.Rows.{valid_measured, repaint_ok, repaint_refused}
use Rattle.pictures.specs.declared.shot.Size.{Size}
use Rattle.pictures.proofs.pair.paint.Goals as goal

pub repaint-requires-clause-picture : goal.repaint-requires-clause-picture
repaint-requires-clause-picture c =
    let e = ap (λ (s : Size). s.columns) c.in_ok-pair.ensures.holds.0 ∙ sym c.if-new-size.false in
    valid_measured _ _ _ _ _ _ _ e c.in_ok-pair.pair.after_valid

pub returns-clause-done : goal.returns-clause-done
returns-clause-done c =
    let pair = c.in_ok-pair.pair in
    let same = c.in_ok-pair.ensures.holds in
    let w = c.if-new-size.false ∙ sym (ap (λ (s : Size). s.columns) same.0) in
    let d = repaint_ok pair.size.rows pair.size.columns _ pair.before.cells.now _ _ _ _ c.repaint.result c.ok_or.result c.ok_or.ensures.value w c.repaint.ensures.says in
    rw (same.0, same.3, same.4) at d

pub returns-clause-no_room : goal.returns-clause-no_room
returns-clause-no_room c =
    let pair = c.in_ok-pair.pair in
    let same = c.in_ok-pair.ensures.holds in
    let w = c.if-new-size.false ∙ sym (ap (λ (s : Size). s.columns) same.0) in
    λ z. rw same.0 at (repaint_refused pair.size.rows pair.size.columns _ pair.before.cells.now _ _ _ _ c.repaint.result c.ok_or.result c.ok_or.ensures.value w c.repaint.ensures.says z)
