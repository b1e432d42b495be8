-- Sums of bytes: those of two parts add up to those of the whole, and each is at most the number of bytes.
use Rattle.std.proofs.Common.{◌≡◌, ℕ, zero, suc, ◌+◌, ◌^◌, ◌<◌, ◌≤◌, cond, eqb, List, [], ◌∷◌, ◌++◌, length, get_or, take, drop, refl, ◌∙◌, arith, length-append}
use Rattle.std.proofs.lemmas.List.{take_more}
use Rattle.std.proofs.lemmas.Bool.{cond_both}
use Rattle.spec.specs.Bytes.{is_newline}
use Rattle.spec.specs.Text.{newlines}
use Rattle.ropes.specs.Layout.{sums_of, sum_at, pack}
use Rattle.ropes.proofs.Packs.{Digits}

pub newlines_append : (a b : List ℕ) → newlines (a ++ b) ≡ newlines a + newlines b
unfolding newlines
newlines_append [] b = omega arith
newlines_append (x ∷ a) b = omega (arith, newlines_append a b)

pub newlines_few : (a : List ℕ) → newlines a ≤ length a
unfolding newlines
newlines_few [] = omega arith
newlines_few (x ∷ a) = cond_both (is_newline x) 1 0 (λ n. n + newlines a ≤ length (x ∷ a)) (λ _. omega (arith, newlines_few a)) (λ _. omega (arith, newlines_few a))

-- how many sums there are; behind them the places are 0
abbrev pub used : ℕ
used = 2

pub length_sums : (a : List ℕ) → length (sums_of a) ≡ 6
unfolding sums_of
length_sums a = refl

pub sum_unused : (a : List ℕ) (k : ℕ) → used ≤ k → sum_at a k ≡ 0
unfolding sums_of
sum_unused a zero h = absurd (omega arith)
sum_unused a (suc zero) h = absurd (omega arith)
sum_unused a (suc (suc zero)) h = refl
sum_unused a (suc (suc (suc zero))) h = refl
sum_unused a (suc (suc (suc (suc zero)))) h = refl
sum_unused a (suc (suc (suc (suc (suc zero))))) h = refl
sum_unused a (suc (suc (suc (suc (suc (suc k)))))) h = refl

pub sum_append : (a b : List ℕ) (k : ℕ) → sum_at (a ++ b) k ≡ sum_at a k + sum_at b k
unfolding sums_of
sum_append a b zero = length-append a b
sum_append a b (suc zero) = newlines_append a b
sum_append a b (suc (suc k)) =
    omega (arith, sum_unused (a ++ b) (suc (suc k)) (omega arith), sum_unused a (suc (suc k)) (omega arith), sum_unused b (suc (suc k)) (omega arith))

pub sum_small : (a : List ℕ) (k : ℕ) → sum_at a k ≤ length a
unfolding sums_of
sum_small a zero = omega arith
sum_small a (suc zero) = newlines_few a
sum_small a (suc (suc k)) = omega (arith, sum_unused a (suc (suc k)) (omega arith))

pub sum_first : (a : List ℕ) → sum_at a 0 ≡ length a
unfolding sums_of
sum_first a = refl

pub sums_digits : (a : List ℕ) → length a < 64 → Digits (sums_of a)
unfolding sums_of Digits
sums_digits a h = (h, (omega (arith, newlines_few a), (omega arith, (omega arith, (omega arith, (omega arith, tt))))))

pub newlines_none : newlines [] ≡ 0
unfolding newlines
newlines_none = refl

-- one byte more
pub newlines_more : (a : List ℕ) (i : ℕ) → i < length a → newlines (take (i + 1) a) ≡ newlines (take i a) + cond (eqb (get_or a i 0) 10) 1 0
unfolding newlines
newlines_more a i h = rw (take_more a i 0 h) (newlines_append (take i a) (get_or a i 0 ∷ []) ∙ omega arith)

-- behind the sums the digits are 0
pub pack_unused : (a : List ℕ) → pack (drop used (sums_of a)) ≡ 0
unfolding sums_of pack
pack_unused a = refl

pub pack_small : (a : List ℕ) → length a < 64 → pack (sums_of a) < 2 ^ 24
unfolding sums_of pack
pack_small a h = omega (arith, newlines_few a)
