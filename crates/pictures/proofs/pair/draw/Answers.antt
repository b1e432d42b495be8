use Rattle.std.proofs.Common.{sym, ap, ◌∙◌}
use Rattle.pictures.proofs.Rows.{valid_measured}
use Rattle.pictures.specs.declared.shot.Size.{Size}
use Rattle.pictures.proofs.pair.draw.Goals as goal

pub redraw-requires-clause-pictures : goal.redraw-requires-clause-pictures
redraw-requires-clause-pictures c =
    let pair = c.in_ok-pair.pair in
    let e = ap (λ (s : Size). s.columns) c.in_ok-pair.ensures.holds.0 ∙ sym c.if-old-columns.false in
    record { before = (valid_measured _ _ _ _ _ _ _ e pair.before_valid).rectangle; after = valid_measured _ _ _ _ _ _ _ e pair.after_valid }
