use Rattle.std.proofs.Common.{◌≡◌, MatchResult, subst}
use Rattle.spec.specs.Text.{copies}
use Rattle.rope_read.specs.Text.{text}
use Rattle.rope_text.proofs.rope_text.RopeText.repeat.Goals as goal

pub returns : goal.returns
returns g c =
    let v = c.settle.ensures.text (record { old = _; new = _; offered = c.repeated-made.ensures }) in
    let new = text (g.W.Words.row c.settle.new.words) c.settle.new.root.0 in
    subst (λ z. MatchResult c.settle.result (λ _. new ≡ copies c.args.n z) (λ _. new ≡ z)) c.self.view_is v
