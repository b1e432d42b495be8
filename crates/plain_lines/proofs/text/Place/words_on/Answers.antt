use Rattle.std.proofs.Common.{◌≡◌, ◌≤◌, refl, le_refl, rules}
use Rattle.std.proofs.lemmas.Fn.{chained_keeps}
use Rattle.plain_lines.specs.declared.text.Place.{Place}
use Rattle.plain_lines.proofs.text.Place.words_on.Goals as goal

pub returns : goal.returns
returns c =
    let here = c.args.self in
    let led = c.repeated.ensures in
    let kept = chained_keeps _ (λ _ (p : Place). (p.text.now ≡ here.text.now) × (here.at ≤ p.at)) (λ _ p _ q h s. search rules) led.0 _ _ (refl, le_refl here.at) led.2 in
    record { text = kept.0; behind = kept.1 }
