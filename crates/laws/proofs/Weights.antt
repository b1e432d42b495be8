-- What changes weigh, and by how much they alter a text's length.
use Rattle.std.proofs.Common.{◌≡◌, ◌+◌, ◌-◌, ◌≤◌, List, [], ◌∷◌, ◌++◌, length, ap, ◌∙◌, arith}
use Rattle.lists.proofs.Replaced.{length_replaced, length_replaced_le}
use Rattle.spec.specs.Text.{Text, replaced}
use Rattle.spec.specs.Editor.{Change}
use Rattle.spec.specs.History.{unmade, remade}
use Rattle.spec.specs.Promises.{changes_weight}
use Rattle.laws.proofs.Replacements.{Applies}

pub changes_weight_append : (ds cs : List Change) → changes_weight (ds ++ cs) ≡ changes_weight ds + changes_weight cs
changes_weight_append [] cs = omega arith
changes_weight_append (d ∷ ds) cs = rw (changes_weight_append ds cs) (omega arith)

-- no change makes a text shorter than by what it weighs
pub applies_weight : (cs : List Change) (s t : Text) → Applies cs s t → length s ≤ length t + changes_weight cs
applies_weight [] s t p = omega (arith, ap length p)
applies_weight (c ∷ cs) s t p =
    let m : Text = p.0 in
    let i : length s ≤ length m + changes_weight cs = applies_weight cs s m p.1 in
    let e : length t ≡ c.place + (length c.new + (length m - (c.place + length c.old))) = ap length p.3 ∙ length_replaced m c.new c.place (c.place + length c.old) p.2.place in
    omega arith

-- nor does unmaking or making it again make a text longer than by that
pub unmade_weight : (cs : List Change) (t : Text) → length (unmade cs t) ≤ length t + changes_weight cs
unfolding unmade
unmade_weight [] t = omega arith
unmade_weight (c ∷ cs) t =
    omega (arith, unmade_weight cs (replaced t c.place (c.place + length c.new) c.old), length_replaced_le t c.old c.place (c.place + length c.new) (omega arith))

pub remade_weight : (cs : List Change) (t : Text) → length (remade cs t) ≤ length t + changes_weight cs
unfolding remade
remade_weight [] t = omega arith
remade_weight (c ∷ cs) t =
    omega (arith, remade_weight cs t, length_replaced_le (remade cs t) c.new c.place (c.place + length c.old) (omega arith))
