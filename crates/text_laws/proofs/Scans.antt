-- Where scans stop is where the definitions lead.
use Rattle.std.proofs.Common.{◌≡◌, ℕ, zero, suc, ◌+◌, ◌-◌, ◌<◌, ◌≤◌, min, Bool, true, false, not, ◌&&◌, eqb, length, drop, sym, refl, ap, ◌∙◌, ⊎_elim, arith, drop-cons}
use Rattle.std.proofs.lemmas.Bool.{cond_both, cases_lt, cond-true, cond-false, eq-eqb, ne_eqb, not-true, not-false, true≢false}
use Rattle.std.proofs.lemmas.Bool.Decides.{nat_tests}
use Rattle.std.proofs.lemmas.List.{drop_all}
use Rattle.spec.specs.Bytes.{newline, is_newline, is_blank, is_white}
use Rattle.spec.specs.Text.{Text, byte, skip_forward, skip_back, is_in_line, line_start, line_end, column, last_in_line, first_nonblank}
use Rattle.spec.specs.Motions.{is_empty_line, white_span, skip_white, skip_white_back}
use Rattle.laws.proofs.TextLines.{skip_forward_is, skip_forward_up, skip_back_is, skip_back_down, line_start_down, line_end_up, at_line_end, line_start_within_line, last_in_line_from, last_in_line_to}
use Rattle.text_laws.specs.Scans.{before, Test, alone, white_between, Forward, Backward}

-- a line begins behind a line end
pub starts_line : (t : Text) (a : ℕ) → eqb (line_start t a) a ≡ is_newline (before t a)
unfolding line_start skip_back
starts_line t zero = refl
starts_line t (suc a) =
    cond_both (is_in_line (byte t a)) (skip_back is_in_line t a) (suc a) (λ b. eqb b (suc a) ≡ is_newline (byte t a)) (λ e. ne_eqb _ _ (λ q. omega (arith, skip_back_down is_in_line t a)) ∙ sym (not-true (is_newline (byte t a)) e)) (λ e. eq-eqb (suc a) (suc a) refl ∙ sym (not-false (is_newline (byte t a)) e))

-- and an empty one is a line end behind another
pub empty_line_is : (t : Text) (a : ℕ) → is_empty_line t a ≡ (is_newline (byte t a) && is_newline (before t a))
unfolding is_empty_line
empty_line_is t a = ap (λ b. is_newline (byte t a) && b) (starts_line t a)

pub skip_forward_scan : (f : ℕ → Bool) (t : Text) (a b : ℕ) → Forward (alone f) t a b → skip_forward f t a ≡ b
skip_forward_scan f t a b h = skip_forward_is f t a b h.from h.within h.passes h.stops

pub skip_back_scan : (f : ℕ → Bool) (t : Text) (a b : ℕ) → Backward (alone f) t a b → skip_back f t a ≡ b
skip_back_scan f t a b h = skip_back_is f t a b h.from h.passes h.stops

-- Over white as far as an empty line.

one_on : (f : Test) (t : Text) (a b : ℕ) → a < b → Forward f t a b → Forward f t (suc a) b
one_on f t a b l h = record { from = l; within = h.within; passes = λ i m n. h.passes i (omega arith) n; stops = h.stops }

white_span_is : (t : Text) (a b k : ℕ) → Forward white_between t a b → a + k ≡ b → white_span (is_newline (before t a)) (drop a t) ≡ k
unfolding white_span
white_span_is t a b zero h e =
    let s : b ≡ a = omega arith in
    ⊎_elim (λ (l : a < length t). rw (drop-cons t a newline l) (cond-false (white_between (before t a) (byte t a)) _ _ (rw s at (h.stops (omega arith))))) (λ (l : length t ≤ a). rw (drop_all a t l)) (cases_lt a (length t))
white_span_is t a b (suc k) h e =
    let w : b ≤ length t = h.within in
    rw (drop-cons t a newline (omega arith)) (cond-true (white_between (before t a) (byte t a)) _ _ (h.passes a (omega arith) (omega arith)) ∙ ap suc (white_span_is t (suc a) b k (one_on _ t a b (omega arith) h) (omega arith)))

pub skip_white_scan : (t : Text) (a b : ℕ) → Forward white_between t a b → skip_white t a ≡ b
unfolding skip_white
skip_white_scan t a b h =
    let l : a ≤ b = h.from in
    ap (λ s. a + white_span s (drop a t)) (starts_line t a) ∙ ap (λ n. a + n) (white_span_is t a b (b - a) h (omega arith)) ∙ omega arith

-- Back over white as far as an empty line.

and_swap : (x y : Bool) → (x && y) ≡ (y && x)
and_swap true true = refl
and_swap true false = refl
and_swap false true = refl
and_swap false false = refl

white_back_test : (t : Text) (a : ℕ) → (is_white (byte t a) && not (is_empty_line t a)) ≡ white_between (before t a) (byte t a)
white_back_test t a =
    ap (λ b. is_white (byte t a) && not b) (empty_line_is t a ∙ and_swap (is_newline (byte t a)) (is_newline (before t a)))

one_back : (f : Test) (t : Text) (a b : ℕ) → b ≤ a → Backward f t (suc a) b → Backward f t a b
one_back f t a b l h = record { from = l; passes = λ i m n. h.passes i m (omega arith); stops = h.stops }

pub skip_white_back_scan : (t : Text) (a b : ℕ) → Backward white_between t a b → skip_white_back t a ≡ b
unfolding skip_white_back
skip_white_back_scan t zero b h = let l : b ≤ 0 = h.from in omega arith
skip_white_back_scan t (suc a) b h =
    let l : b ≤ suc a = h.from in
    ⊎_elim (λ (k : b < suc a). cond-true _ _ _ (white_back_test t a ∙ h.passes a (omega arith) (omega arith)) ∙ skip_white_back_scan t a b (one_back _ t a b (omega arith) h)) (λ (k : suc a ≤ b). let s : b ≡ suc a = omega arith in let r : b - 1 ≡ a = omega arith in cond-false _ _ _ (white_back_test t a ∙ rw r at (h.stops (omega arith))) ∙ sym s) (cases_lt b (suc a))

-- Blanks lie within a line.

blank_in_line : (c : ℕ) → is_blank c ≡ true → is_in_line c ≡ true
blank_in_line c e = grind (arith, nat_tests)

pub blanks_end : (t : Text) (a b : ℕ) → a ≤ length t → Forward (alone is_blank) t (line_start t a) b → b ≤ line_end t a
blanks_end t a b h s =
    ⊎_elim (λ (k : line_end t a < b). absurd (true≢false (sym (blank_in_line _ (s.passes (line_end t a) (omega (arith, line_start_down t a, line_end_up t a)) k)) ∙ at_line_end t a (omega (arith, s.within))))) (λ (k : b ≤ line_end t a). k) (cases_lt (line_end t a) b)

pub first_nonblank_scan : (t : Text) (a b : ℕ) → Forward (alone is_blank) t (line_start t a) b → first_nonblank t a ≡ min b (last_in_line t a)
unfolding first_nonblank
first_nonblank_scan t a b h = ap (λ n. min n (last_in_line t a)) (skip_forward_scan is_blank t (line_start t a) b h)

-- at most one of them, or the line's last place, is not before the place that is found
pub blanks_passed : (t : Text) (a b : ℕ) → a ≤ length t → Forward (alone is_blank) t (line_start t a) b → b ≤ suc (min b (last_in_line t a))
unfolding last_in_line
blanks_passed t a b h s = let l : b ≤ line_end t a = blanks_end t a b h s in grind (arith, nat_tests)

-- and how many there are is its column
pub first_nonblank_column : (t : Text) (a : ℕ) → a ≤ length t → first_nonblank t a - line_start t a ≡ column t (first_nonblank t a)
unfolding first_nonblank column
first_nonblank_column t a h =
    let from : line_start t a ≤ last_in_line t a = last_in_line_from t a in
    let b : line_start t a ≤ skip_forward is_blank t (line_start t a) = skip_forward_up is_blank t (line_start t a) in
    let to : min (skip_forward is_blank t (line_start t a)) (last_in_line t a) ≤ line_end t a = omega (arith, last_in_line_to t a) in
    ap (λ n. min (skip_forward is_blank t (line_start t a)) (last_in_line t a) - n) (sym (line_start_within_line t a (min (skip_forward is_blank t (line_start t a)) (last_in_line t a)) h (omega arith) to))
