-- Lines counted: which line a place is in, where line n begins, and that each undoes the other.
use Rattle.std.proofs.Common.{◌≡◌, ℕ, zero, suc, ◌+◌, ◌-◌, ◌<◌, ◌≤◌, min, true, false, cond, ltb, [], ◌∷◌, ◌++◌, length, take, drop, sym, ap, ◌∙◌, ⊎_elim, arith, take-suc}
use Rattle.std.proofs.lemmas.List.{take_all, take-append-drop}
use Rattle.std.proofs.lemmas.Bool.{cond_both, cases_lt, cond-true, cond-false, ltb-true, ltb-false, not-true, not-false}
use Rattle.spec.specs.Bytes.{newline, is_newline}
use Rattle.spec.specs.Text.{Text, byte, is_in_line, line_end, line_start, newlines, line_of, line_count, lines_below, nth_line}
use Rattle.laws.proofs.TextLines.{Pass, in_text, line_passes, line_start_down, line_end_up, at_line_end, before_line_start, line_start_within_line, nth_line_within, nth_line_start}

pub newlines_append : (s t : Text) → newlines (s ++ t) ≡ newlines s + newlines t
unfolding newlines
newlines_append [] t = omega arith
newlines_append (c ∷ cs) t = omega (arith, newlines_append cs t)

-- one place on
pub line_of_suc : (t : Text) (a : ℕ) → a < length t → line_of t (suc a) ≡ line_of t a + cond (is_newline (byte t a)) 1 0
unfolding line_of newlines
line_of_suc t a h = ap newlines (take-suc t a newline h) ∙ newlines_append (take a t) (byte t a ∷ []) ∙ omega arith

pub line_of_end : (t : Text) (a : ℕ) → length t ≤ a → line_of t a ≡ newlines t
unfolding line_of
line_of_end t a h = ap newlines (take_all a t h)

pub line_of_within : (t : Text) (a : ℕ) → line_of t a ≤ newlines t
unfolding line_of
line_of_within t a = omega (arith, newlines_append (take a t) (drop a t), ap newlines (take-append-drop a t))

pub line_of_less : (t : Text) (a : ℕ) → line_of t a < line_count t
unfolding line_count
line_of_less t a = omega (arith, line_of_within t a)

pub line_of_up : (t : Text) (a b : ℕ) → a ≤ b → line_of t a ≤ line_of t b
line_of_up t a zero l = let s : a ≡ 0 = omega arith in rw s (omega arith)
line_of_up t a (suc b) l =
    ⊎_elim (λ (k : a < suc b). ⊎_elim (λ (m : b < length t). omega (arith, line_of_up t a b (omega arith), line_of_suc t b m)) (λ (m : length t ≤ b). omega (arith, line_of_within t a, line_of_end t (suc b) (omega arith))) (cases_lt b (length t))) (λ (k : suc b ≤ a). let s : a ≡ suc b = omega arith in rw s (omega arith)) (cases_lt a (suc b))

-- one place on over a byte that is no line end, and over one that is
line_of_byte : (t : Text) (a : ℕ) → is_in_line (byte t a) ≡ true → line_of t a ≡ line_of t (suc a)
line_of_byte t a q =
    omega (arith, line_of_suc t a (in_text t a q), cond-false {A = ℕ} (is_newline (byte t a)) 1 0 (not-true (is_newline (byte t a)) q))

line_of_newline : (t : Text) (a : ℕ) → a < length t → is_in_line (byte t a) ≡ false → line_of t (suc a) ≡ suc (line_of t a)
line_of_newline t a h q =
    omega (arith, line_of_suc t a h, cond-true {A = ℕ} (is_newline (byte t a)) 1 0 (not-false (is_newline (byte t a)) q))

-- all places of a line are in it
pub line_of_same : (t : Text) (a b : ℕ) → a ≤ b → Pass is_in_line t a b → line_of t a ≡ line_of t b
line_of_same t a zero l p = let s : a ≡ 0 = omega arith in ap (line_of t) s
line_of_same t a (suc b) l p =
    ⊎_elim (λ (k : a < suc b). line_of_same t a b (omega arith) (λ i m n. p i m (omega arith)) ∙ line_of_byte t b (p b (omega arith) (omega arith))) (λ (k : suc b ≤ a). let s : a ≡ suc b = omega arith in ap (line_of t) s) (cases_lt a (suc b))

pub line_of_line_start : (t : Text) (a : ℕ) → line_of t (line_start t a) ≡ line_of t a
line_of_line_start t a =
    line_of_same t (line_start t a) a (line_start_down t a) (λ i l h. line_passes t a i l (omega (arith, line_end_up t a)))

pub line_of_line_end : (t : Text) (a : ℕ) → line_of t (line_end t a) ≡ line_of t a
line_of_line_end t a =
    sym (line_of_same t a (line_end t a) (line_end_up t a) (λ i l h. line_passes t a i (omega (arith, line_start_down t a)) h))

-- the line below
pub line_of_behind : (t : Text) (a : ℕ) → line_end t a < length t → line_of t (suc (line_end t a)) ≡ suc (line_of t a)
line_of_behind t a h = line_of_newline t (line_end t a) h (at_line_end t a h) ∙ ap suc (line_of_line_end t a)

-- the last line
pub line_of_last : (t : Text) (a : ℕ) → length t ≤ line_end t a → line_of t a ≡ newlines t
line_of_last t a h = sym (line_of_line_end t a) ∙ line_of_end t (line_end t a) h

-- so many lines down, but not behind the last
pub line_of_lines_below : (t : Text) (a n : ℕ) → line_of t (lines_below t a n) ≡ min (line_of t a + n) (newlines t)
unfolding lines_below
line_of_lines_below t a zero = omega (arith, line_of_within t a)
line_of_lines_below t a (suc n) =
    cond_both (ltb (line_end t a) (length t)) (lines_below t (suc (line_end t a)) n) a (λ b. line_of t b ≡ min (line_of t a + suc n) (newlines t)) (λ q. omega (arith, line_of_lines_below t (suc (line_end t a)) n, line_of_behind t a (ltb-true _ _ q))) (λ q. omega (arith, line_of_last t a (ltb-false _ _ q)))

pub line_of_nth_line : (t : Text) (n : ℕ) → line_of t (nth_line t n) ≡ min n (newlines t)
unfolding nth_line line_of newlines
line_of_nth_line t n = omega (arith, line_of_lines_below t 0 n)

-- a line's beginning is in no line before
pub line_start_less : (t : Text) (a b : ℕ) → line_start t b ≡ b → b ≤ length t → a < b → line_of t a < line_of t b
line_start_less t a zero s h l = absurd (omega arith)
line_start_less t a (suc b) s h l =
    let m : suc b - 1 ≡ b = omega arith in
    let q : is_in_line (byte t b) ≡ false = rw (s, m) at (before_line_start t (suc b) (omega arith)) in
    omega (arith, line_of_newline t b h q, line_of_up t a b (omega arith))

-- so a line begins at one place only
pub line_start_unique : (t : Text) (a b : ℕ) → line_start t a ≡ a → line_start t b ≡ b → a ≤ length t → b ≤ length t → line_of t a ≡ line_of t b → a ≡ b
line_start_unique t a b p q h k e =
    ⊎_elim (λ (l : a < b). absurd (omega (arith, line_start_less t a b q k l))) (λ (l : b ≤ a). ⊎_elim (λ (m : b < a). absurd (omega (arith, line_start_less t b a p h m))) (λ (m : a ≤ b). omega arith) (cases_lt b a)) (cases_lt a b)

-- a line's beginning is the beginning of its line
pub line_start_again : (t : Text) (a : ℕ) → a ≤ length t → line_start t (line_start t a) ≡ line_start t a
line_start_again t a h = line_start_within_line t a (line_start t a) h (omega arith) (omega (arith, line_start_down t a, line_end_up t a))

-- where the line of a place begins
pub nth_line_line_of : (t : Text) (a : ℕ) → a ≤ length t → nth_line t (line_of t a) ≡ line_start t a
nth_line_line_of t a h =
    line_start_unique t (nth_line t (line_of t a)) (line_start t a) (nth_line_start t (line_of t a)) (line_start_again t a h) (nth_line_within t (line_of t a)) (omega (arith, line_start_down t a)) (omega (arith, line_of_nth_line t (line_of t a), line_of_line_start t a, line_of_within t a))

pub nth_line_up : (t : Text) (m n : ℕ) → m ≤ n → nth_line t m ≤ nth_line t n
nth_line_up t m n l =
    ⊎_elim (λ (k : nth_line t n < nth_line t m). absurd (omega (arith, line_start_less t (nth_line t n) (nth_line t m) (nth_line_start t m) (nth_line_within t m) k, line_of_nth_line t m, line_of_nth_line t n))) (λ (k : nth_line t m ≤ nth_line t n). k) (cases_lt (nth_line t n) (nth_line t m))
