use Rattle.std.proofs.Common.{◌≡◌, ◌<◌, ◌≤◌, length, refl, le_refl, rules}
use Rattle.std.proofs.lemmas.Fn.{chained_keeps}
use Rattle.plain_lines.specs.declared.text.Place.{Place}
use Rattle.plain_lines.proofs.text.Place.word_ends_on.Goals as goal

pub returns : goal.returns
returns c =
    let here = c.args.self in
    let led = c.repeated.ensures in
    let kept = chained_keeps _ (λ _ (p : Place). (p.text.now ≡ here.text.now) × (here.at ≤ p.at) × (here.at < length here.text.now → p.at < length here.text.now)) (λ _ p _ q h s. search rules) led.0 _ _ (refl, le_refl here.at, λ h. h) led.2 in
    record { text = kept.0; behind = kept.1; within = kept.2 }
