-- Words by scans.
use Rattle.std.proofs.Common.{◌≡◌, ℕ, zero, suc, ◌+◌, ◌-◌, ◌<◌, ◌≤◌, Bool, true, false, [], length, drop, sym, refl, ap, ◌∙◌, subst, add-one, arith}
use Rattle.std.proofs.lemmas.List.{drop_all}
use Rattle.std.proofs.lemmas.Bool.{cond-true, cond-false}
use Rattle.spec.specs.Bytes.{Class, white, is_white, class, same_class}
use Rattle.spec.specs.Text.{Text, byte, span, skip_forward}
use Rattle.spec.specs.Motions.{times, is_empty_line, skip_white, word_passed, next_word, word_start, previous_word, word_last, word_end}
use Rattle.laws.proofs.TextMotions.{word_passed_up}
use Rattle.text_laws.specs.Scans.{of_class, white_between, Forward, Backward}
use Rattle.text_laws.proofs.Scans.{skip_forward_scan, skip_back_scan, skip_white_scan, skip_white_back_scan}

abbrev class_like : ℕ → ℕ → Bool
class_like d c = same_class (class c) (class d)

-- a scan over the class of a byte
of_byte : (t : Text) (a b c : ℕ) (k : Class) → k ≡ class (byte t c) → Forward (of_class k) t a b → skip_forward (class_like (byte t c)) t a ≡ b
of_byte t a b c k e h = skip_forward_scan (class_like (byte t c)) t a b (subst (λ x. Forward (of_class x) t a b) e h)

-- The word or empty line at a place is passed.

pub passed_empty_line : (t : Text) (a : ℕ) → is_empty_line t a ≡ true → a + 1 ≡ word_passed t a
unfolding word_passed
passed_empty_line t a e = add-one a ∙ sym (cond-true (is_empty_line t a) _ _ e)

pub passed_white : (t : Text) (a : ℕ) → is_empty_line t a ≡ false → is_white (byte t a) ≡ true → a ≡ word_passed t a
unfolding word_passed
passed_white t a e w = sym (cond-false (is_empty_line t a) _ _ e ∙ cond-true (is_white (byte t a)) _ _ w)

pub passed_word : (t : Text) (a b : ℕ) (k : Class) → is_empty_line t a ≡ false → is_white (byte t a) ≡ false → k ≡ class (byte t a) → Forward (of_class k) t a b → b ≡ word_passed t a
unfolding word_passed
passed_word t a b k e w q h =
    sym (cond-false (is_empty_line t a) _ _ e ∙ cond-false (is_white (byte t a)) _ _ w ∙ of_byte t a b a k q h)

-- The next word.

pub next_word_end : (t : Text) (a : ℕ) → length t ≤ a → next_word t a ≡ length t
unfolding next_word skip_white
next_word_end t a h = omega (arith, word_passed_up t a)

pub next_word_scan : (t : Text) (a b : ℕ) → Forward white_between t (word_passed t a) b → next_word t a ≡ b
unfolding next_word
next_word_scan t a b h = let w : b ≤ length t = h.within in omega (arith, skip_white_scan t (word_passed t a) b h)

-- The word before.

pub starts_at_0 : (t : Text) → word_start t 0 ≡ 0
unfolding word_start
starts_at_0 t = refl

pub starts_empty_line : (t : Text) (a : ℕ) → 0 < a → is_empty_line t (a - 1) ≡ true → a - 1 ≡ word_start t a
unfolding word_start
starts_empty_line t zero l e = absurd (omega arith)
starts_empty_line t (suc a) l e = let s : suc a - 1 ≡ a = omega arith in s ∙ sym (cond-true (is_empty_line t a) _ _ (rw s at e))

pub starts_word : (t : Text) (a b : ℕ) (k : Class) → 0 < a → is_empty_line t (a - 1) ≡ false → k ≡ class (byte t (a - 1)) → Backward (of_class k) t a b → b ≡ word_start t a
unfolding word_start
starts_word t zero b k l e q h = absurd (omega arith)
starts_word t (suc a) b k l e q h =
    let s : suc a - 1 ≡ a = omega arith in
    let r : k ≡ class (byte t a) = rw s at q in
    sym (cond-false (is_empty_line t a) _ _ (rw s at e) ∙ skip_back_scan (class_like (byte t a)) t (suc a) b (subst (λ x. Backward (of_class x) t (suc a) b) r h))

pub previous_word_scan : (t : Text) (a b : ℕ) → Backward white_between t a b → previous_word t a ≡ word_start t b
unfolding previous_word
previous_word_scan t a b h = ap (word_start t) (skip_white_back_scan t a b h)

-- The next last byte of a word.

pub word_end_scan : (t : Text) (a s b : ℕ) (k : Class) → Forward (of_class white) t (a + 1) s → k ≡ class (byte t s) → Forward (of_class k) t s b → word_end t a ≡ b - 1
unfolding word_end word_last
word_end_scan t a s b k h q l =
    let e : skip_forward is_white t (suc a) ≡ s = skip_forward_scan is_white t (suc a) s (rw add-one at h) in
    ap (λ p. skip_forward (class_like (byte t p)) t p - 1) e ∙ ap (λ n. n - 1) (of_byte t s b s k q l)

pub word_end_past : (t : Text) (a : ℕ) → length t ≤ a → a ≡ word_end t a
unfolding word_end word_last skip_forward span
word_end_past t a h =
    let s : drop (suc a) t ≡ [] = drop_all (suc a) t (omega arith) in
    let e : suc a + 0 ≡ suc a = omega arith in
    rw (s, e, s) (omega arith)

-- What leads nowhere leads nowhere however often.
pub times_stay : {A : Type 0} (f : A → A) (n : ℕ) (a : A) → f a ≡ a → times n f a ≡ a
times_stay f zero a e = refl
times_stay f (suc n) a e = ap (times n f) e ∙ times_stay f n a e

-- one of n - i times
pub times_more : {A : Type 0} (f : A → A) (n i : ℕ) (a : A) → i < n → times (n - (i + 1)) f (f a) ≡ times (n - i) f a
times_more f n i a h = let s : n - i ≡ suc (n - (i + 1)) = omega arith in rw s refl
