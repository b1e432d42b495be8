-- Lines of a text: where skipping over bytes leads, where a line begins and ends, and that all places of a line agree on that.
use Rattle.std.proofs.Common.{◌≡◌, ℕ, zero, suc, ◌+◌, ◌-◌, ◌<◌, ◌≤◌, max, Bool, true, false, ltb, [], ◌∷◌, length, drop, sym, refl, ap, ◌∙◌, ⊎_elim, arith, length-drop, get_or-drop, drop-cons}
use Rattle.std.proofs.lemmas.Bool.{cond_both, cases_lt, cond-true, cond-false, ltb-true, true≢false}
use Rattle.std.proofs.lemmas.List.{get_or_past}
use Rattle.std.proofs.lemmas.Bool.Decides.{nat_tests}
use Rattle.spec.specs.Bytes.{newline}
use Rattle.spec.specs.Text.{Text, byte, span, skip_forward, skip_back, is_in_line, line_end, line_start, last_in_line, lines_below, nth_line}

-- Skipping.

-- the bytes from one place up to another pass a test
abbrev pub Pass : (ℕ → Bool) → Text → ℕ → ℕ → Type 0
Pass f t a b = (i : ℕ) → a ≤ i → i < b → f (byte t i) ≡ true

span_within : (f : ℕ → Bool) (t : Text) → span f t ≤ length t
unfolding span
span_within f [] = omega arith
span_within f (c ∷ cs) = let h : span f cs ≤ length cs = span_within f cs in grind arith

span_passes : (f : ℕ → Bool) (t : Text) (i : ℕ) → i < span f t → f (byte t i) ≡ true
unfolding span
span_passes f [] i h = absurd (omega arith)
span_passes f (c ∷ cs) zero h = grind arith
span_passes f (c ∷ cs) (suc i) h = span_passes f cs i (grind arith)

span_stops : (f : ℕ → Bool) (t : Text) → span f t < length t → f (byte t (span f t)) ≡ false
unfolding span
span_stops f [] h = absurd (omega arith)
span_stops f (c ∷ cs) h =
    cond_both (f c) (suc (span f cs)) 0 (λ n. f (byte (c ∷ cs) n) ≡ false) (λ e. span_stops f cs (grind arith)) (λ e. e)

pub skip_forward_up : (f : ℕ → Bool) (t : Text) (a : ℕ) → a ≤ skip_forward f t a
unfolding skip_forward
skip_forward_up f t a = omega arith

pub skip_forward_bound : (f : ℕ → Bool) (t : Text) (a : ℕ) → skip_forward f t a ≤ max a (length t)
unfolding skip_forward
skip_forward_bound f t a = omega (arith, span_within f (drop a t), length-drop a t)

pub skip_forward_within : (f : ℕ → Bool) (t : Text) (a : ℕ) → a ≤ length t → skip_forward f t a ≤ length t
skip_forward_within f t a h = omega (arith, skip_forward_bound f t a)

pub skip_forward_passes : (f : ℕ → Bool) (t : Text) (a : ℕ) → Pass f t a (skip_forward f t a)
unfolding skip_forward
skip_forward_passes f t a i l h = at (i - a) (omega arith)
  where
    at : (n : ℕ) → i ≡ a + n → f (byte t i) ≡ true
    at n e = rw (e, ← get_or-drop a t n newline) (span_passes f (drop a t) n (omega arith))

pub skip_forward_stops : (f : ℕ → Bool) (t : Text) (a : ℕ) → skip_forward f t a < length t → f (byte t (skip_forward f t a)) ≡ false
unfolding skip_forward
skip_forward_stops f t a h = rw (← get_or-drop a t (span f (drop a t)) newline) (span_stops f (drop a t) (omega (arith, length-drop a t)))

skip_forward_step : (f : ℕ → Bool) (t : Text) (a : ℕ) → a < length t → f (byte t a) ≡ true → skip_forward f t a ≡ skip_forward f t (suc a)
unfolding skip_forward span
skip_forward_step f t a h e = rw (drop-cons t a newline h, e) (omega arith)

-- it leads to the same place from all places that it passes over
pub skip_forward_same : (f : ℕ → Bool) (t : Text) (a b : ℕ) → a ≤ b → b ≤ length t → Pass f t a b → skip_forward f t a ≡ skip_forward f t b
skip_forward_same f t a zero l h p = let s : a ≡ 0 = omega arith in ap (skip_forward f t) s
skip_forward_same f t a (suc b) l h p =
    ⊎_elim (λ (k : a < suc b). skip_forward_same f t a b (omega arith) (omega arith) (λ i m n. p i m (omega arith)) ∙ skip_forward_step f t b (omega arith) (p b (omega arith) (omega arith))) (λ (k : suc b ≤ a). let s : a ≡ suc b = omega arith in ap (skip_forward f t) s) (cases_lt a (suc b))

pub skip_back_down : (f : ℕ → Bool) (t : Text) (a : ℕ) → skip_back f t a ≤ a
unfolding skip_back
skip_back_down f t zero = omega arith
skip_back_down f t (suc a) = let h : skip_back f t a ≤ a = skip_back_down f t a in grind arith

pub skip_back_passes : (f : ℕ → Bool) (t : Text) (a : ℕ) → Pass f t (skip_back f t a) a
unfolding skip_back
skip_back_passes f t zero = λ i l h. absurd (omega arith)
skip_back_passes f t (suc a) =
    cond_both (f (byte t a)) (skip_back f t a) (suc a) (λ b. Pass f t b (suc a)) (λ e i l h. ⊎_elim (λ (k : i < a). skip_back_passes f t a i l k) (λ (k : a ≤ i). let s : i ≡ a = omega arith in rw s e) (cases_lt i a)) (λ e i l h. absurd (omega arith))

pub skip_back_stops : (f : ℕ → Bool) (t : Text) (a : ℕ) → 0 < skip_back f t a → f (byte t (skip_back f t a - 1)) ≡ false
unfolding skip_back
skip_back_stops f t zero = λ h. absurd (omega arith)
skip_back_stops f t (suc a) =
    cond_both (f (byte t a)) (skip_back f t a) (suc a) (λ b. 0 < b → f (byte t (b - 1)) ≡ false) (λ e h. skip_back_stops f t a h) (λ e h. let s : suc a - 1 ≡ a = omega arith in rw s e)

pub skip_back_same : (f : ℕ → Bool) (t : Text) (a b : ℕ) → a ≤ b → Pass f t a b → skip_back f t a ≡ skip_back f t b
unfolding skip_back
skip_back_same f t a zero l p = let s : a ≡ 0 = omega arith in ap (skip_back f t) s
skip_back_same f t a (suc b) l p =
    ⊎_elim (λ (k : a < suc b). skip_back_same f t a b (omega arith) (λ i m n. p i m (omega arith)) ∙ sym (cond-true (f (byte t b)) (skip_back f t b) (suc b) (p b (omega arith) (omega arith)))) (λ (k : suc b ≤ a). let s : a ≡ suc b = omega arith in ap (skip_back f t) s) (cases_lt a (suc b))

-- The place to which each leads is the only one of its kind.
pub skip_forward_is : (f : ℕ → Bool) (t : Text) (a b : ℕ) → a ≤ b → b ≤ length t → Pass f t a b → (b < length t → f (byte t b) ≡ false) → skip_forward f t a ≡ b
skip_forward_is f t a b l h p stops =
    ⊎_elim (λ (k : b < skip_forward f t b). absurd (true≢false (sym (skip_forward_passes f t b b (omega arith) k) ∙ stops (omega (arith, skip_forward_within f t b h))))) (λ (k : skip_forward f t b ≤ b). omega (arith, skip_forward_same f t a b l h p, skip_forward_up f t b)) (cases_lt b (skip_forward f t b))

skip_back_stays : (f : ℕ → Bool) (t : Text) (a : ℕ) → (0 < a → f (byte t (a - 1)) ≡ false) → skip_back f t a ≡ a
unfolding skip_back
skip_back_stays f t zero stops = refl
skip_back_stays f t (suc a) stops =
    let s : suc a - 1 ≡ a = omega arith in cond-false (f (byte t a)) _ _ (rw s at (stops (omega arith)))

pub skip_back_is : (f : ℕ → Bool) (t : Text) (a b : ℕ) → b ≤ a → Pass f t b a → (0 < b → f (byte t (b - 1)) ≡ false) → skip_back f t a ≡ b
skip_back_is f t a b l p stops = sym (skip_back_same f t b a l p) ∙ skip_back_stays f t b stops

-- A line's beginning and end.

pub line_start_down : (t : Text) (a : ℕ) → line_start t a ≤ a
unfolding line_start
line_start_down t a = skip_back_down is_in_line t a

pub line_end_up : (t : Text) (a : ℕ) → a ≤ line_end t a
unfolding line_end
line_end_up t a = skip_forward_up is_in_line t a

pub line_end_within : (t : Text) (a : ℕ) → a ≤ length t → line_end t a ≤ length t
unfolding line_end
line_end_within t a h = skip_forward_within is_in_line t a h

-- there is no line end within a line
pub line_passes : (t : Text) (a : ℕ) → Pass is_in_line t (line_start t a) (line_end t a)
unfolding line_start line_end
line_passes t a i l h =
    ⊎_elim (λ (k : i < a). skip_back_passes is_in_line t a i l k) (λ (k : a ≤ i). skip_forward_passes is_in_line t a i k h) (cases_lt i a)

-- but at its end, unless it is the last
pub at_line_end : (t : Text) (a : ℕ) → line_end t a < length t → is_in_line (byte t (line_end t a)) ≡ false
unfolding line_end
at_line_end t a h = skip_forward_stops is_in_line t a h

-- and before its beginning, unless it is the first
pub before_line_start : (t : Text) (a : ℕ) → 0 < line_start t a → is_in_line (byte t (line_start t a - 1)) ≡ false
unfolding line_start
before_line_start t a h = skip_back_stops is_in_line t a h

pub line_end_is : (t : Text) (a b : ℕ) → a ≤ b → b ≤ length t → Pass is_in_line t a b → (b < length t → is_in_line (byte t b) ≡ false) → line_end t a ≡ b
unfolding line_end
line_end_is t a b l h p stops = skip_forward_is is_in_line t a b l h p stops

pub line_start_is : (t : Text) (a b : ℕ) → b ≤ a → Pass is_in_line t b a → (0 < b → is_in_line (byte t (b - 1)) ≡ false) → line_start t a ≡ b
unfolding line_start
line_start_is t a b l p stops = skip_back_is is_in_line t a b l p stops

-- behind the text there is none but line ends
pub in_text : (t : Text) (a : ℕ) → is_in_line (byte t a) ≡ true → a < length t
in_text t a e =
    ⊎_elim (λ (k : a < length t). k) (λ (k : length t ≤ a). absurd (true≢false (sym e ∙ ap is_in_line (get_or_past t a newline k)))) (cases_lt a (length t))

-- Two places with no line end between them are in one line.
pub line_start_same : (t : Text) (a b : ℕ) → a ≤ b → Pass is_in_line t a b → line_start t a ≡ line_start t b
unfolding line_start
line_start_same t a b l p = skip_back_same is_in_line t a b l p

pub line_end_same : (t : Text) (a b : ℕ) → a ≤ b → b ≤ length t → Pass is_in_line t a b → line_end t a ≡ line_end t b
unfolding line_end
line_end_same t a b l h p = skip_forward_same is_in_line t a b l h p

pub before_line_end : (t : Text) (a : ℕ) → is_in_line (byte t a) ≡ true → a < line_end t a
before_line_end t a e =
    let p : Pass is_in_line t a (suc a) = λ i l h. let s : i ≡ a = omega arith in rw s e in
    omega (arith, line_end_same t a (suc a) (omega arith) (in_text t a e) p, line_end_up t (suc a))

module _ (t : Text) (a b : ℕ) (within : a ≤ length t) (from : line_start t a ≤ b) (to : b ≤ line_end t a) where
  passes_back : b ≤ a → Pass is_in_line t b a
  passes_back l i m n = line_passes t a i (omega arith) (omega (arith, line_end_up t a))

  passes_on : a ≤ b → Pass is_in_line t a b
  passes_on l i m n = line_passes t a i (omega (arith, line_start_down t a)) (omega arith)

  pub line_start_within_line : line_start t b ≡ line_start t a
  line_start_within_line =
      ⊎_elim (λ (k : a < b). sym (line_start_same t a b (omega arith) (passes_on (omega arith)))) (λ (k : b ≤ a). line_start_same t b a k (passes_back k)) (cases_lt a b)

  pub line_end_within_line : line_end t b ≡ line_end t a
  line_end_within_line =
      ⊎_elim (λ (k : a < b). sym (line_end_same t a b (omega arith) (omega (arith, line_end_within t a within)) (passes_on (omega arith)))) (λ (k : b ≤ a). line_end_same t b a k within (passes_back k)) (cases_lt a b)

  pub last_in_line_within_line : last_in_line t b ≡ last_in_line t a
  unfolding last_in_line
  last_in_line_within_line = rw (line_start_within_line, line_end_within_line)

-- The last place in a line.

pub last_in_line_from : (t : Text) (a : ℕ) → line_start t a ≤ last_in_line t a
unfolding last_in_line
last_in_line_from t a = grind (arith, nat_tests)

pub last_in_line_to : (t : Text) (a : ℕ) → last_in_line t a ≤ line_end t a
unfolding last_in_line
last_in_line_to t a =
    let h : line_start t a ≤ a = line_start_down t a in
    let k : a ≤ line_end t a = line_end_up t a in
    grind (arith, nat_tests)

pub last_in_line_last : (t : Text) (a b : ℕ) → b < line_end t a → b ≤ last_in_line t a
unfolding last_in_line
last_in_line_last t a b l = grind (arith, nat_tests)

-- Lines one below another.

-- behind a line end a line begins
pub line_start_behind : (t : Text) (a : ℕ) → line_end t a < length t → line_start t (suc (line_end t a)) ≡ suc (line_end t a)
unfolding line_start skip_back
line_start_behind t a h = cond-false _ _ _ (at_line_end t a h)

pub lines_below_within : (t : Text) (a n : ℕ) → a ≤ length t → lines_below t a n ≤ length t
unfolding lines_below
lines_below_within t a zero h = h
lines_below_within t a (suc n) h =
    cond_both (ltb (line_end t a) (length t)) (lines_below t (suc (line_end t a)) n) a (λ b. b ≤ length t) (λ e. lines_below_within t (suc (line_end t a)) n (ltb-true _ _ e)) (λ e. h)

pub lines_below_start : (t : Text) (a n : ℕ) → line_start t a ≡ a → line_start t (lines_below t a n) ≡ lines_below t a n
unfolding lines_below
lines_below_start t a zero h = h
lines_below_start t a (suc n) h =
    cond_both (ltb (line_end t a) (length t)) (lines_below t (suc (line_end t a)) n) a (λ b. line_start t b ≡ b) (λ e. lines_below_start t (suc (line_end t a)) n (line_start_behind t a (ltb-true _ _ e))) (λ e. h)

pub nth_line_within : (t : Text) (n : ℕ) → nth_line t n ≤ length t
unfolding nth_line
nth_line_within t n = lines_below_within t 0 n (omega arith)

pub nth_line_start : (t : Text) (n : ℕ) → line_start t (nth_line t n) ≡ nth_line t n
unfolding nth_line line_start skip_back
nth_line_start t n = lines_below_start t 0 n refl
