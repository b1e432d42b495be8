-- Bytes found in a line by scans.
use Rattle.std.proofs.Common.{◌≡◌, ℕ, zero, suc, ◌+◌, ◌-◌, ◌<◌, ◌≤◌, true, false, eqb, ◌∷◌, length, sym, ap, ◌∙◌, subst, ⊎_elim, arith, drop-cons}
use mathlib.Core.Option.{some, none}
use Rattle.std.proofs.lemmas.Bool.{cond-true, cond-false, cases_lt, or_parts, or_cases, not-true, not-false, eq-eqb, ne_eqb, true≢false, not_from_false, not_from_true}
use Rattle.spec.specs.Bytes.{newline, is_newline}
use Rattle.spec.specs.Text.{Text, byte, part, is_in_line, line_end}
use Rattle.spec.specs.Motions.{inclusive, target, nth_found, find_in_line, found_by}
use Rattle.laws.proofs.TextLines.{Pass, at_line_end, line_end_is, line_end_within_line, line_start_down, line_end_up, in_text, before_line_end, line_end_within}
use Rattle.laws.proofs.TextMotions.{Each, Between, find_in_line_between}
use Rattle.text_laws.specs.Scans.{until, Forward}
use Rattle.text_laws.specs.Finds.{found_from, FoundNone, FoundAt}

part_cons : (t : Text) (p e : ℕ) → p < e → p < length t → part t p e ≡ byte t p ∷ part t (suc p) e
part_cons t p e l h =
    let s : e - p ≡ suc (e - suc p) = omega arith in rw (s, drop-cons t p newline h)

-- what is no c is passed over
nth_found_on : (c n : ℕ) (t : Text) (e k p : ℕ) → p + k ≤ e → e ≤ length t → ((i : ℕ) → p ≤ i → i < p + k → eqb (byte t i) c ≡ false) → nth_found c (suc n) (part t p e) p ≡ nth_found c (suc n) (part t (p + k) e) (p + k)
unfolding nth_found
nth_found_on c n t e zero p l h others = let s : p + 0 ≡ p = omega arith in rw s
nth_found_on c n t e (suc k) p l h others =
    let s : p + suc k ≡ suc p + k = omega arith in
    rw (part_cons t p e (omega arith) (omega arith), s) (cond-false (eqb (byte t p) c) _ _ (others p (omega arith) (omega arith)) ∙ nth_found_on c n t e k (suc p) (omega arith) h (λ i m q. others i (omega arith) (omega arith)))

module _ (c : ℕ) (t : Text) (a b : ℕ) (in_line : is_newline (byte t a) ≡ false) (scan : Forward (until c) t (suc a) b) where
  inside : is_in_line (byte t a) ≡ true
  inside = not_from_false (is_newline (byte t a)) in_line

  others : (i : ℕ) → suc a ≤ i → i < b → (eqb (byte t i) c ≡ false) × (is_newline (byte t i) ≡ false)
  others i l h = or_parts (eqb (byte t i) c) (is_newline (byte t i)) (not-true _ (scan.passes i l h))

  passes : Pass is_in_line t a b
  passes i l h =
      ⊎_elim (λ (k : a < i). not_from_false (is_newline (byte t i)) (others i k h).1) (λ (k : i ≤ a). let s : i ≡ a = omega arith in rw s inside) (cases_lt a i)

  before_end : b ≤ line_end t a
  before_end =
      ⊎_elim (λ (k : line_end t a < b). absurd (true≢false (sym (passes (line_end t a) (line_end_up t a) k) ∙ at_line_end t a (omega (arith, scan.within))))) (λ (k : b ≤ line_end t a). k) (cases_lt (line_end t a) b)

  to_b : (n : ℕ) → find_in_line c (suc n) t a ≡ nth_found c (suc n) (part t b (line_end t a)) b
  unfolding find_in_line
  to_b n =
      let f : suc a ≤ b = scan.from in
      let s : suc a + (b - suc a) ≡ b = omega arith in
      rw s at (nth_found_on c n t (line_end t a) (b - suc a) (suc a) (omega (arith, before_end)) (line_end_within t a (omega (arith, in_text t a inside))) (λ i l h. (others i l (omega arith)).0))

  -- the scan comes to the line's end
  at_end : is_newline (byte t b) ≡ true → line_end t a ≡ b
  at_end e = line_end_is t a b (omega (arith, scan.from)) scan.within passes (λ _. not_from_true (is_newline (byte t b)) e)

  pub found_none : is_newline (byte t b) ≡ true → FoundNone c t a
  unfolding nth_found
  found_none e = record { found = λ n. let z : b - b ≡ 0 = omega arith in to_b n ∙ rw (at_end e, z) }

  -- or to the byte that is looked for
  same_end : line_end t b ≡ line_end t a
  same_end = line_end_within_line t a b (omega (arith, in_text t a inside)) (omega (arith, line_start_down t a, scan.from)) before_end

  is_found : is_newline (byte t b) ≡ false → b < length t → eqb (byte t b) c ≡ true
  is_found e l = ⊎_elim (λ h. h) (λ h. absurd (true≢false (sym h ∙ e))) (or_cases (eqb (byte t b) c) (is_newline (byte t b)) (not-false _ (scan.stops l)))

  pub found_first : is_newline (byte t b) ≡ false → FoundAt c t a b
  unfolding nth_found find_in_line
  found_first e =
      let q : is_in_line (byte t b) ≡ true = not_from_false (is_newline (byte t b)) e in
      let l : b < length t = in_text t b q in
      let m : b < line_end t a = omega (arith, before_line_end t b q, same_end) in
      record {
        ahead = scan.from;
        inside = l;
        same_line = same_end;
        found = λ n. to_b n ∙ rw (part_cons t b (line_end t a) m l, same_end) (cond-true (eqb (byte t b) c) _ _ (is_found e l));
      }

  -- it stays in the line
  pub found_within : b ≤ line_end t a
  found_within = before_end

-- at a line end nothing is behind
pub found_none_at_end : (c : ℕ) (t : Text) (a : ℕ) → a ≤ length t → is_newline (byte t a) ≡ true → FoundNone c t a
unfolding find_in_line nth_found
found_none_at_end c t a h e =
    let s : line_end t a ≡ a = line_end_is t a a (omega arith) h (λ i l k. absurd (omega arith)) (λ _. not_from_true (is_newline (byte t a)) e) in
    record { found = λ n. let z : a - suc a ≡ 0 = omega arith in rw (s, z) }

-- One of n - i bytes that are looked for.

pub found_from_some : (c : ℕ) (t : Text) (n a : ℕ) → 1 ≤ n → found_from c n t a ≡ find_in_line c n t a
found_from_some c t n a h = cond-false (eqb n 0) _ _ (ne_eqb n 0 (λ e. omega arith))

pub found_more : (c : ℕ) (t : Text) (n i a b : ℕ) → i < n → FoundAt c t a b → found_from c (n - (i + 1)) t b ≡ found_from c (n - i) t a
found_more c t n i a b l h =
    let s : suc (n - (i + 1)) ≡ n - i = omega arith in
    sym (found_from_some c t (n - i) a (omega arith) ∙ (ap (λ k. find_in_line c k t a) (sym s) ∙ h.found (n - (i + 1))))

pub found_no_more : (c : ℕ) (t : Text) (n i a : ℕ) → i < n → FoundNone c t a → found_from c (n - i) t a ≡ none
found_no_more c t n i a l h =
    let s : suc (n - (i + 1)) ≡ n - i = omega arith in
    found_from_some c t (n - i) a (omega arith) ∙ (ap (λ k. find_in_line c k t a) (sym s) ∙ h.found (n - (i + 1)))

pub found_from_none : (c : ℕ) (t : Text) (n i a : ℕ) → n ≤ i → found_from c (n - i) t a ≡ some a
found_from_none c t n i a h = cond-true (eqb (n - i) 0) _ _ (eq-eqb (n - i) 0 (omega arith))

-- Where f and t lead.

pub found_by_none : (back c : ℕ) (t : Text) (a n : ℕ) → none ≡ find_in_line c n t a → none ≡ found_by back c t a n
unfolding found_by
found_by_none back c t a n e = rw (sym e)

pub found_by_some : (back c : ℕ) (t : Text) (a n b : ℕ) → some b ≡ find_in_line c n t a → target (b - back) inclusive ≡ found_by back c t a n
unfolding found_by
found_by_some back c t a n b e = rw (sym e)

pub found_ahead : (c : ℕ) (t : Text) (a n b : ℕ) → some b ≡ find_in_line c n t a → a < b
found_ahead c t a n b e = (subst (Each (Between (suc a) (line_end t a))) (sym e) (find_in_line_between c n t a)).from
