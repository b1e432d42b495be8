use Rattle.std.proofs.Common.{◌≡◌, ℕ, ◌+◌, [], length, get_or, ap, ◌∙◌}
use Rattle.term.specs.Scene.{Scene}
use Rattle.term.proofs.Paints.{paint_more, each_more}
use Rattle.term.proofs.painting.repaint_rows.Goals as goal

pub loop-row-preserved : goal.loop-row-preserved
loop-row-preserved g c =
    let s : Scene = g.C.Change.scene c.args.change.now in
    let e : g.C.Change.scene c.loop-row.change ≡ s = c.loop-row.invariant.2 in
    let l : length c.read_after.new.into ≡ length c.args.new.now = c.read_after.auto.into ∙ c.loop-row.auto.new in
    let n : c.read_after.new.into ≡ get_or s.after.rows c.loop-row.row [] = c.read_after.ensures.copied ∙ ap (λ (x : Scene). get_or x.after.rows c.loop-row.row []) e in (
      paint_more _ _ _ c.args.rows (length c.args.new.now) c.loop-row.row _ _ _ s.after c.read_after.new.into _ _ _ _ c.requires.picture c.loop-row-test.true n c.whole_row.ensures.from c.whole_row.ensures.whole c.write_update-at.ensures.says c.write_update-at.ensures.at_row c.write_update-at.ensures.at_column c.loop-row.invariant.0,
      each_more c.loop-row.row c.args.rows _ _ _ _ _ c.loop-row-test.true (ap (λ (x : ℕ). 16 + x) l) c.loop-row.invariant.1 c.write_update-at.ensures.long,
      c.read_after.ensures.same ∙ e,
      c.read_after.ensures.still_ready,
      each_more c.loop-row.row c.args.rows _ _ _ _ _ c.loop-row-test.true (ap (λ (x : Scene). x.row_touches) e) c.loop-row.invariant.4 c.read_after.ensures.touches,
      c.write_update-at.ensures.same ∙ c.loop-row.invariant.5,
    )
