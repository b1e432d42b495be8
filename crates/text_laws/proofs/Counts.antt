-- Lines by their numbers: where a line ends is known from where the next one begins.
use Rattle.std.proofs.Common.{◌≡◌, ℕ, zero, suc, ◌+◌, ◌-◌, ◌<◌, ◌≤◌, min, false, length, sym, ap, ◌∙◌, ⊎_elim, add-one, arith}
use Rattle.std.proofs.lemmas.Bool.{cases_lt, cond-false, not_from_true, cases_Bool}
use Rattle.spec.specs.Bytes.{is_newline}
use Rattle.spec.specs.Text.{Text, byte, is_in_line, line_end, line_start, newlines, line_of, line_count, nth_line, first_nonblank}
use Rattle.spec.specs.Motions.{linewise, target, to_line}
use Rattle.laws.proofs.TextLines.{line_end_within_line, line_start_is, line_start_down, line_end_up, line_end_within, line_start_behind, nth_line_within, nth_line_start}
use Rattle.laws.proofs.TextCounts.{line_of_suc, line_of_within, line_of_behind, line_of_last, line_of_nth_line, nth_line_line_of, line_start_unique}

-- p is the first place with n line ends before it
pub record FirstInLine (t : Text) (n p : ℕ) : Type 0 where
  pub within : p ≤ length t
  pub counts : line_of t p ≡ n
  pub least : (q : ℕ) → q < p → line_of t q < n

first_starts : (t : Text) (n p : ℕ) → FirstInLine t n p → line_start t p ≡ p
first_starts t n p h = line_start_is t p p (omega arith) (λ i l k. absurd (omega arith)) (at p h)
  where
    at : (p : ℕ) → FirstInLine t n p → 0 < p → is_in_line (byte t (p - 1)) ≡ false
    at zero h l = absurd (omega arith)
    at (suc p) h l =
        let s : suc p - 1 ≡ p = omega arith in
        let w : suc p ≤ length t = h.within in
        let e : line_of t (suc p) ≡ n = h.counts in
        rw s (⊎_elim (λ q. not_from_true (is_newline (byte t p)) q) (λ q. absurd (omega (arith, line_of_suc t p w, h.least p (omega arith), cond-false {A = ℕ} (is_newline (byte t p)) 1 0 q))) (cases_Bool (is_newline (byte t p))))

pub nth_line_first : (t : Text) (n p : ℕ) → FirstInLine t n p → nth_line t n ≡ p
nth_line_first t n p h =
    let w : p ≤ length t = h.within in
    let e : line_of t p ≡ n = h.counts in
    line_start_unique t (nth_line t n) p (nth_line_start t n) (first_starts t n p h) (nth_line_within t n) w (omega (arith, line_of_nth_line t n, line_of_within t p))

-- behind the last line, where the last begins
pub nth_line_last : (t : Text) (n : ℕ) → nth_line t n ≡ nth_line t (min n (newlines t))
nth_line_last t n =
    line_start_unique t (nth_line t n) (nth_line t (min n (newlines t))) (nth_line_start t n) (nth_line_start t _) (nth_line_within t n) (nth_line_within t _) (omega (arith, line_of_nth_line t n, line_of_nth_line t (min n (newlines t))))

pub line_end_last : (t : Text) (a : ℕ) → a ≤ length t → newlines t ≤ line_of t a → line_end t a ≡ length t
line_end_last t a h l =
    ⊎_elim (λ (k : line_end t a < length t). absurd (omega (arith, line_of_behind t a k, line_of_within t (suc (line_end t a))))) (λ (k : length t ≤ line_end t a). omega (arith, line_end_within t a h)) (cases_lt (line_end t a) (length t))

pub line_end_before : (t : Text) (a : ℕ) → a ≤ length t → line_of t a < newlines t → suc (line_end t a) ≡ nth_line t (suc (line_of t a))
line_end_before t a h l =
    ⊎_elim (λ (k : line_end t a < length t). line_start_unique t (suc (line_end t a)) (nth_line t (suc (line_of t a))) (line_start_behind t a k) (nth_line_start t _) k (nth_line_within t _) (omega (arith, line_of_behind t a k, line_of_nth_line t (suc (line_of t a))))) (λ (k : length t ≤ line_end t a). absurd (omega (arith, line_of_last t a k))) (cases_lt (line_end t a) (length t))

-- the same by a line's number
pub nth_line_end_last : (t : Text) (l : ℕ) → newlines t ≤ l → line_end t (nth_line t l) ≡ length t
nth_line_end_last t l h = line_end_last t (nth_line t l) (nth_line_within t l) (omega (arith, line_of_nth_line t l))

pub nth_line_end_before : (t : Text) (l : ℕ) → l < newlines t → suc (line_end t (nth_line t l)) ≡ nth_line t (suc l)
nth_line_end_before t l h =
    let e : line_of t (nth_line t l) ≡ l = omega (arith, line_of_nth_line t l) in
    line_end_before t (nth_line t l) (nth_line_within t l) (omega arith) ∙ ap (λ n. nth_line t (suc n)) e

-- as code has it
pub nth_line_next : (t : Text) (l : ℕ) → l < newlines t → nth_line t (l + 1) - 1 ≡ line_end t (nth_line t l)
nth_line_next t l h = rw add-one (omega (arith, nth_line_end_before t l h))

pub nth_line_some : (t : Text) (l : ℕ) → l < newlines t → 1 ≤ nth_line t (l + 1)
nth_line_some t l h = rw add-one (omega (arith, nth_line_end_before t l h))

-- the line of a place ends where the line with its number does
pub line_end_nth_line : (t : Text) (a : ℕ) → a ≤ length t → line_end t (nth_line t (line_of t a)) ≡ line_end t a
line_end_nth_line t a h =
    ap (line_end t) (nth_line_line_of t a h) ∙ line_end_within_line t a (line_start t a) h (omega arith) (omega (arith, line_start_down t a, line_end_up t a))

-- behind the last line G and gg lead to the last, as nth_line does
pub to_line_is : (t : Text) (l : ℕ) → to_line t l ≡ target (first_nonblank t (nth_line t l)) linewise
unfolding to_line line_count
to_line_is t l =
    let s : suc (newlines t) - 1 ≡ newlines t = omega arith in
    rw s (ap (λ a. target (first_nonblank t a) linewise) (sym (nth_line_last t l)))

-- behind the last line none begins
pub nth_line_stays : (t : Text) (l : ℕ) → newlines t ≤ l → nth_line t l ≡ nth_line t (l + 1)
nth_line_stays t l h =
    let e : min l (newlines t) ≡ min (l + 1) (newlines t) = omega arith in
    nth_line_last t l ∙ (ap (nth_line t) e ∙ sym (nth_line_last t (l + 1)))
