use Rattle.std.proofs.Common.{◌≡◌, drop, take, ◌++◌, MatchResult, subst}
use Rattle.rope_read.specs.Text.{text}
use Rattle.rope_text.proofs.rope_text.RopeText.rotate.Goals as goal

pub returns : goal.returns
returns g c =
    let v = c.settle.ensures.text (record { old = _; new = _; offered = c.rotated-made.ensures }) in
    let new = text (g.W.Words.row c.settle.new.words) c.settle.new.root.0 in
    subst (λ z. MatchResult c.settle.result (λ _. new ≡ drop c.args.at z ++ take c.args.at z) (λ _. new ≡ z)) c.self.view_is v
