-- Motions over words and to a byte: how far they lead, and that the cursor may stand there.
use Rattle.std.proofs.Common.{◌≡◌, ℕ, zero, suc, ◌+◌, ◌-◌, ◌<◌, ◌≤◌, Bool, true, false, not, ◌&&◌, eqb, List, [], ◌∷◌, length, drop, sym, refl, ap, ◌∙◌, subst, ⊎_elim, arith, length-take}
use mathlib.Core.Option.{Option, some, none}
use Rattle.std.proofs.lemmas.Bool.{cond_both, and_parts, eqb-true, true≢false, cases_lt}
use Rattle.std.proofs.lemmas.Bool.Decides.{nat_tests}
use Rattle.spec.specs.Bytes.{Class, white, alphanumeric, punctuation, class, same_class, is_white, is_newline}
use Rattle.spec.specs.Text.{Text, byte, part, skip_forward, skip_back, is_in_line, line_end, line_start}
use Rattle.spec.specs.Motions.{times, or_one, is_empty_line, skip_white, word_passed, next_word, skip_white_back, word_start, previous_word, word_last, word_end, nth_found, find_in_line}
use Rattle.laws.proofs.TextLines.{skip_forward_up, skip_forward_bound, skip_back_down, skip_back_passes}
use Rattle.laws.proofs.Standing.{StandsAt, line_start_stands, byte_stands}

pub or_one_positive : (n : ℕ) → 1 ≤ or_one n
or_one_positive zero = omega arith
or_one_positive (suc n) = omega arith

-- a function so many times keeps what it keeps once
pub times_keeps : {A : Type 0} (P : A → Type 0) (f : A → A) → ((a : A) → P a → P (f a)) → (n : ℕ) (a : A) → P a → P (times n f a)
times_keeps P f keeps zero a h = h
times_keeps P f keeps (suc n) a h = times_keeps P f keeps n (f a) (keeps a h)

-- and leaves what it leaves once
pub times_same : {A : Type 0} (f : A → A) (a : A) → f a ≡ a → (n : ℕ) → times n f a ≡ a
times_same f a e n = times_keeps (λ b. b ≡ a) f (λ b h. ap f h ∙ e) n a refl

-- what may be there has a property
abbrev pub Each : {A : Type 0} → (A → Type 0) → Option A → Type 0
Each P none = Unit {0}
Each P (some x) = P x

pub each_map : {A : Type 0} (P Q : A → Type 0) → ((x : A) → P x → Q x) → (o : Option A) → Each P o → Each Q o
each_map P Q f none h = tt
each_map P Q f (some x) h = f x h

-- Forward over words.

pub word_passed_up : (t : Text) (a : ℕ) → a ≤ word_passed t a
unfolding word_passed
word_passed_up t a =
    cond_both (is_empty_line t a) (suc a) _ (λ b. a ≤ b) (λ _. omega arith) (λ _. cond_both (is_white (byte t a)) a _ (λ b. a ≤ b) (λ _. omega arith) (λ _. skip_forward_up _ t a))

pub next_word_up : (t : Text) (a : ℕ) → a ≤ length t → a ≤ next_word t a
unfolding next_word skip_white
next_word_up t a h = omega (arith, word_passed_up t a)

pub next_word_within : (t : Text) (a : ℕ) → next_word t a ≤ length t
unfolding next_word
next_word_within t a = omega arith

pub word_end_up : (t : Text) (a : ℕ) → a ≤ word_end t a
unfolding word_end word_last
word_end_up t a = omega (arith, skip_forward_up is_white t (suc a), skip_forward_up (λ c. same_class (class c) (class (byte t (skip_forward is_white t (suc a))))) t (skip_forward is_white t (suc a)))

pub word_end_within : (t : Text) (a : ℕ) → a ≤ length t → word_end t a ≤ length t
unfolding word_end word_last
word_end_within t a h = omega (arith, skip_forward_bound is_white t (suc a), skip_forward_bound (λ c. same_class (class c) (class (byte t (skip_forward is_white t (suc a))))) t (skip_forward is_white t (suc a)))

-- Back over words.

pub skip_white_back_down : (t : Text) (a : ℕ) → skip_white_back t a ≤ a
unfolding skip_white_back
skip_white_back_down t zero = omega arith
skip_white_back_down t (suc a) =
    cond_both (is_white (byte t a) && not (is_empty_line t a)) (skip_white_back t a) (suc a) (λ b. b ≤ suc a) (λ _. omega (arith, skip_white_back_down t a)) (λ _. omega arith)

-- the byte before a place ends a word or is an empty line; or the text begins there
abbrev pub EndsWord : Text → ℕ → Type 0
EndsWord t zero = Unit {0}
EndsWord t (suc a) = (is_white (byte t a) && not (is_empty_line t a)) ≡ false

pub skip_white_back_ends : (t : Text) (a : ℕ) → EndsWord t (skip_white_back t a)
unfolding skip_white_back
skip_white_back_ends t zero = tt
skip_white_back_ends t (suc a) =
    cond_both (is_white (byte t a) && not (is_empty_line t a)) (skip_white_back t a) (suc a) (EndsWord t) (λ _. skip_white_back_ends t a) (λ e. e)

pub empty_line_stands : (t : Text) (a : ℕ) → a ≤ length t → is_empty_line t a ≡ true → StandsAt t a
unfolding is_empty_line
empty_line_stands t a h e = subst (StandsAt t) (eqb-true _ _ (and_parts (is_newline (byte t a)) (eqb (line_start t a) a) e).1) (line_start_stands t a h)

same_class_refl : (c : Class) → same_class c c ≡ true
same_class_refl white = refl
same_class_refl alphanumeric = refl
same_class_refl punctuation = refl

same_class_eq : (c d : Class) → same_class c d ≡ true → c ≡ d
same_class_eq white white e = refl
same_class_eq white alphanumeric e = absurd (true≢false (sym e))
same_class_eq white punctuation e = absurd (true≢false (sym e))
same_class_eq alphanumeric white e = absurd (true≢false (sym e))
same_class_eq alphanumeric alphanumeric e = refl
same_class_eq alphanumeric punctuation e = absurd (true≢false (sym e))
same_class_eq punctuation white e = absurd (true≢false (sym e))
same_class_eq punctuation alphanumeric e = absurd (true≢false (sym e))
same_class_eq punctuation punctuation e = refl

-- a line end is white
pub nonwhite_in_line : (c : ℕ) → is_white c ≡ false → is_in_line c ≡ true
unfolding class
nonwhite_in_line c e = grind (arith, nat_tests)

pub word_start_down : (t : Text) (a : ℕ) → word_start t a ≤ a
unfolding word_start
word_start_down t zero = omega arith
word_start_down t (suc a) = cond_both (is_empty_line t a) a _ (λ b. b ≤ suc a) (λ _. omega arith) (λ _. skip_back_down _ t (suc a))

pub previous_word_down : (t : Text) (a : ℕ) → previous_word t a ≤ a
unfolding previous_word
previous_word_down t a = omega (arith, word_start_down t (skip_white_back t a), skip_white_back_down t a)

-- a byte of the class of one that isn't white
class_stands : (t : Text) (a b : ℕ) → is_white (byte t a) ≡ false → same_class (class (byte t b)) (class (byte t a)) ≡ true → StandsAt t b
class_stands t a b w e = byte_stands t b (nonwhite_in_line (byte t b) (ap (λ c. same_class c white) (same_class_eq _ _ e) ∙ w))

abbrev class_of : ℕ → ℕ → Bool
class_of d c = same_class (class c) (class d)

skip_back_passes_to : (f : ℕ → Bool) (t : Text) (a : ℕ) → f (byte t a) ≡ true → f (byte t (skip_back f t (suc a))) ≡ true
unfolding skip_back
skip_back_passes_to f t a e =
    rw e (⊎_elim (λ (k : skip_back f t a < a). skip_back_passes f t a (skip_back f t a) (omega arith) k) (λ (k : a ≤ skip_back f t a). let s : skip_back f t a ≡ a = omega (arith, skip_back_down f t a) in rw s e) (cases_lt (skip_back f t a) a))

-- the first of a run of bytes of one class, which isn't white
run_stands : (t : Text) (a : ℕ) → is_white (byte t a) ≡ false → StandsAt t (skip_back (class_of (byte t a)) t (suc a))
run_stands t a w = class_stands t a _ w (skip_back_passes_to (class_of (byte t a)) t a (same_class_refl (class (byte t a))))

pub word_start_stands : (t : Text) (a : ℕ) → a ≤ length t → EndsWord t a → StandsAt t (word_start t a)
unfolding word_start line_start skip_back
word_start_stands t zero h w = line_start_stands t 0 h
word_start_stands t (suc a) h w =
    cond_both (is_empty_line t a) a _ (StandsAt t) (λ e. empty_line_stands t a (omega arith) e) (λ e. run_stands t a (grind (arith, nat_tests)))

pub previous_word_stands : (t : Text) (a : ℕ) → a ≤ length t → StandsAt t (previous_word t a)
unfolding previous_word
previous_word_stands t a h = word_start_stands t (skip_white_back t a) (omega (arith, skip_white_back_down t a)) (skip_white_back_ends t a)

-- To a byte in the line.

-- from one place on and before another
pub record Between (a b i : ℕ) : Type 0 where
  pub from : a ≤ i
  pub before : i < b

found_later : (a n : ℕ) (o : Option ℕ) → Each (Between (suc a) (suc a + n)) o → Each (Between a (a + suc n)) o
found_later a n = each_map (Between (suc a) (suc a + n)) (Between a (a + suc n)) (λ b h. record { from = omega arith; before = omega arith })

nth_found_between : (c n : ℕ) (xs : List ℕ) (a : ℕ) → Each (Between a (a + length xs)) (nth_found c n xs a)
unfolding nth_found
nth_found_between c n [] a = tt
nth_found_between c zero (x ∷ xs) a = tt
nth_found_between c (suc n) (x ∷ xs) a =
    cond_both (eqb x c) _ _ (Each (Between a (a + suc (length xs)))) (λ _. cond_both (eqb n 0) _ _ (Each (Between a (a + suc (length xs)))) (λ _. record { from = omega arith; before = omega arith }) (λ _. found_later a (length xs) _ (nth_found_between c n xs (suc a)))) (λ _. found_later a (length xs) _ (nth_found_between c (suc n) xs (suc a)))

pub find_in_line_between : (c n : ℕ) (t : Text) (a : ℕ) → Each (Between (suc a) (line_end t a)) (find_in_line c n t a)
unfolding find_in_line
find_in_line_between c n t a =
    each_map (Between (suc a) (suc a + length (part t (suc a) (line_end t a)))) (Between (suc a) (line_end t a)) (λ b h. record { from = h.from; before = omega (arith, length-take (line_end t a - suc a) (drop (suc a) t)) }) _ (nth_found_between c n (part t (suc a) (line_end t a)) (suc a))
