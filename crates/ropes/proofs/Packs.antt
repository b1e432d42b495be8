-- Bytes packed into words come out again, and so do sums packed into one.
use Rattle.std.proofs.Common.{◌≡◌, ℕ, zero, suc, ◌+◌, ◌*◌, ◌/◌, ◌%◌, ◌^◌, ◌<◌, ◌≤◌, List, [], ◌∷◌, length, get_or, drop, sym, refl, ap, ◌∙◌, ⊎_elim, pow-suc, add-one, arith}
use native.Mathlib.Nat.{pow-succ', div-div-eq-div-mul, zero-div}
use Rattle.std.proofs.lemmas.List.{drop_more}
use Rattle.std.proofs.lemmas.Bool.{cases_eq}
use Rattle.ropes.specs.Rope.{Octets}
use Rattle.ropes.specs.Layout.{word, byte_of, word_at, words_from, pack, digit}
use Rattle.ropes.proofs.Bytes.{octets_at}

module _ (a b c d : ℕ) (ha : a < 256) (hb : b < 256) (hc : c < 256) (hd : d < 256) where
  pub word_fits : word a b c d < 4294967296
  unfolding word
  word_fits = omega arith

  byte_0 : byte_of (word a b c d) 0 ≡ a
  unfolding word byte_of
  byte_0 = omega arith

  byte_1 : byte_of (word a b c d) 1 ≡ b
  unfolding word byte_of
  byte_1 = omega arith

  byte_2 : byte_of (word a b c d) 2 ≡ c
  unfolding word byte_of
  byte_2 = omega arith

  byte_3 : byte_of (word a b c d) 3 ≡ d
  unfolding word byte_of
  byte_3 = omega arith

module _ (xs : List ℕ) (o : Octets xs) (k : ℕ) where
  pub word_at_fits : word_at xs k < 4294967296
  unfolding word_at
  word_at_fits = word_fits _ _ _ _ (octets_at xs (4 * k) o) (octets_at xs (4 * k + 1) o) (octets_at xs (4 * k + 2) o) (octets_at xs (4 * k + 3) o)

  pub byte_of_word_at : (j : ℕ) → j < 4 → byte_of (word_at xs k) j ≡ get_or xs (4 * k + j) 0
  unfolding word_at
  byte_of_word_at j h =
      let b0 = octets_at xs (4 * k) o in
      let b1 = octets_at xs (4 * k + 1) o in
      let b2 = octets_at xs (4 * k + 2) o in
      let b3 = octets_at xs (4 * k + 3) o in
      ⊎_elim (λ (e : j ≡ 0). let z : 4 * k ≡ 4 * k + j = omega arith in ap (byte_of (word_at xs k)) e ∙ (byte_0 _ _ _ _ b0 b1 b2 b3 ∙ ap (λ q. get_or xs q 0) z))
      (λ n0. ⊎_elim (λ (e : j ≡ 1). ap (byte_of (word_at xs k)) e ∙ (byte_1 _ _ _ _ b0 b1 b2 b3 ∙ ap (λ q. get_or xs (4 * k + q) 0) (sym e)))
      (λ n1. ⊎_elim (λ (e : j ≡ 2). ap (byte_of (word_at xs k)) e ∙ (byte_2 _ _ _ _ b0 b1 b2 b3 ∙ ap (λ q. get_or xs (4 * k + q) 0) (sym e)))
      (λ n2. let e : j ≡ 3 = omega arith in ap (byte_of (word_at xs k)) e ∙ (byte_3 _ _ _ _ b0 b1 b2 b3 ∙ ap (λ q. get_or xs (4 * k + q) 0) (sym e)))
      (cases_eq j 2)) (cases_eq j 1)) (cases_eq j 0)

pub length_words_from : (xs : List ℕ) (k n : ℕ) → length (words_from xs k n) ≡ n
unfolding words_from
length_words_from xs k zero = refl
length_words_from xs k (suc n) = ap suc (length_words_from xs (suc k) n)

pub get_or_words_from : (xs : List ℕ) (k n j : ℕ) → j < n → get_or (words_from xs k n) j 0 ≡ word_at xs (k + j)
unfolding words_from
get_or_words_from xs k zero j h = absurd (omega arith)
get_or_words_from xs k (suc n) zero h = let e : k ≡ k + 0 = omega arith in ap (word_at xs) e
get_or_words_from xs k (suc n) (suc j) h = let e : suc k + j ≡ k + suc j = omega arith in get_or_words_from xs (suc k) n j (omega arith) ∙ ap (word_at xs) e

-- each is a digit
unfoldable pub Digits : List ℕ → Type 0
Digits [] = Unit {0}
Digits (x ∷ xs) = (x < 64) × Digits xs

digit_next : (x y k : ℕ) → x < 64 → digit (x + 64 * y) (suc k) ≡ digit y k
unfolding digit
digit_next x y k h =
    let e : (x + 64 * y) / 64 ≡ y = omega arith in
    let f : (x + 64 * y) / 64 ^ suc k ≡ y / 64 ^ k =
    ap (λ z. (x + 64 * y) / z) (pow-succ' 64 k) ∙ (sym (div-div-eq-div-mul (x + 64 * y) 64 (64 ^ k)) ∙ ap (λ z. z / 64 ^ k) e) in
    ap (λ z. z % 64) f

digit_first : (x y : ℕ) → x < 64 → digit (x + 64 * y) 0 ≡ x
unfolding digit
digit_first x y h = omega arith

digit_none : (k : ℕ) → digit 0 k ≡ 0
unfolding digit
digit_none k = ap (λ z. z % 64) (zero-div (64 ^ k))

pub digit_pack : (xs : List ℕ) (k : ℕ) → Digits xs → digit (pack xs) k ≡ get_or xs k 0
unfolding pack Digits
digit_pack [] zero h = digit_none 0
digit_pack [] (suc k) h = digit_none (suc k)
digit_pack (x ∷ xs) zero h = digit_first x (pack xs) h.0
digit_pack (x ∷ xs) (suc k) h = digit_next x (pack xs) k h.0 ∙ digit_pack xs k h.1

-- one digit less
pub divided_none : (w : ℕ) → w ≡ w / 64 ^ 0
divided_none w = omega arith

pub divided_more : (w k : ℕ) → (w / 64 ^ k) / 64 ≡ w / 64 ^ (k + 1)
divided_more w k = div-div-eq-div-mul w (64 ^ k) 64 ∙ ap (λ z. w / z) (sym (ap (λ z. 64 ^ z) (add-one k) ∙ pow-suc 64 k))

pub digit_is : (w k : ℕ) → (w / 64 ^ k) % 64 ≡ digit w k
unfolding digit
digit_is w k = refl

pub pack_nil : pack [] ≡ 0
unfolding pack
pack_nil = refl

pub pack_more : (xs : List ℕ) (k : ℕ) → k < length xs → pack (drop k xs) ≡ 64 * pack (drop (k + 1) xs) + get_or xs k 0
unfolding pack
pack_more xs k h = rw (drop_more xs k 0 h) (omega arith)

pub pack_drop : (xs : List ℕ) (k : ℕ) → pack (drop k xs) ≤ pack xs
unfolding pack
pack_drop [] zero = omega arith
pack_drop [] (suc k) = omega arith
pack_drop (x ∷ xs) zero = omega arith
pack_drop (x ∷ xs) (suc k) = omega (arith, pack_drop xs k)

pub byte_at_0 : (w j : ℕ) → j ≡ 0 → w % 256 ≡ byte_of w j
unfolding byte_of
byte_at_0 w j e = let z : w % 256 ≡ (w / 1) % 256 = omega arith in z ∙ sym (ap (byte_of w) e)

pub byte_at_1 : (w j : ℕ) → j ≡ 1 → (w / 256) % 256 ≡ byte_of w j
unfolding byte_of
byte_at_1 w j e = sym (ap (byte_of w) e)

pub byte_at_2 : (w j : ℕ) → j ≡ 2 → (w / 65536) % 256 ≡ byte_of w j
unfolding byte_of
byte_at_2 w j e = sym (ap (byte_of w) e)

pub byte_at_3 : (w j : ℕ) → j ≡ 3 → (w / 16777216) % 256 ≡ byte_of w j
unfolding byte_of
byte_at_3 w j e = sym (ap (byte_of w) e)
