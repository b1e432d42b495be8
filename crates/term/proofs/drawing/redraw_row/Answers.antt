use Rattle.std.proofs.Common.{◌≡◌, length, sym, ap, ◌∙◌, arith}
use Rattle.terminals.proofs.Sending.{row_stays}
use Rattle.term.specs.Scene.{Scene}
use Rattle.term.proofs.Scenes.{after_row, update_sent, update_refused}
use Rattle.term.proofs.drawing.redraw_row.Goals as goal

pub returns-then-unchanged-clause-says : goal.returns-then-unchanged-clause-says
returns-then-unchanged-clause-says g c = row_stays _ _ _ _ _ _ _ _ (c.unchanged.ensures (rw c.if-unchanged.true tt))

pub returns-in_default-clause-says : goal.returns-in_default-clause-says
returns-in_default-clause-says g c =
    let new_is : c.read_after.new.into ≡ after_row (g.C.Change.scene c.args.change.now) c.args.row = c.read_after.ensures.copied ∙ ap (λ (s : Scene). after_row s c.args.row) c.read_before.ensures.same in
    let e : c.read_before.new.into ≡ c.read_after.new.into = c.in_default.ensures in
    row_stays _ _ _ _ _ _ _ _ (sym c.read_before.ensures.copied ∙ e ∙ new_is)

pub returns-then-left-new-clause-says : goal.returns-then-left-new-clause-says
returns-then-left-new-clause-says g c =
    let new_is : c.read_after.new.into ≡ after_row (g.C.Change.scene c.args.change.now) c.args.row = c.read_after.ensures.copied ∙ ap (λ (s : Scene). after_row s c.args.row) c.read_before.ensures.same in
    update_refused _ _ (length c.args.old.now) c.args.row _ _ _ (g.C.Change.scene c.args.change.now) _ _ c.requires.pictures c.requires.within c.read_before.ensures.copied new_is c.in-Some.ensures (omega arith)

pub returns-clause-says : goal.returns-clause-says
returns-clause-says g c =
    let new_is : c.read_after.new.into ≡ after_row (g.C.Change.scene c.args.change.now) c.args.row = c.read_after.ensures.copied ∙ ap (λ (s : Scene). after_row s c.args.row) c.read_before.ensures.same in
    rw (c.write_update.ensures.at_row, c.write_update.ensures.at_column) (update_sent (g.W.ByteWriter.written c.args.writer.now) (g.W.ByteWriter.written c.write_update.new.writer) (length c.args.old.now) c.args.row _ _ _ (g.C.Change.scene c.args.change.now) _ _ c.args.at.row c.args.at.column c.requires.pictures c.requires.within c.read_before.ensures.copied new_is c.in-Some.ensures c.write_update.ensures.says c.write_update.ensures.long)
