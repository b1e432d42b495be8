-- The digits of a number, as a library writes them.
use Rattle.std.proofs.Common.{◌≡◌, ℕ, ◌≤◌, [], sym, ◌∙◌, arith, rules}
use Rattle.std.specs.Fmt as fmt
use Rattle.std.proofs.lemmas.List.{append-nil}
use Rattle.std.proofs.lemmas.Fmt.{PrependsLastDigit, decimal_from_prepends, length-decimal-le}
use Rattle.spec.specs.Screen.{digits_before, decimal}

prepends : PrependsLastDigit digits_before
unfolding digits_before
prepends = search rules

pub decimal_is : (n : ℕ) → n ≤ 9999 → fmt.decimal n ≡ decimal n
unfolding decimal
decimal_is n h = sym (decimal_from_prepends digits_before prepends 20 n [] (omega arith) (omega (arith, length-decimal-le 4 n (omega arith) (omega arith) (omega arith))) ∙ append-nil (fmt.decimal n))
