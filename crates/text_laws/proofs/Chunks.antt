-- A scan goes on chunk by chunk: what passes in the bytes of a range passes in the text.
use Rattle.std.proofs.Common.{◌≡◌, ℕ, zero, suc, ◌+◌, ◌-◌, ◌<◌, ◌≤◌, true, false, length, get_or, take, drop, sym, ap, ◌∙◌, arith, length-drop, length-take, get_or-drop, get_or-take}
use Rattle.std.proofs.lemmas.List.{get_or_default}
use Rattle.spec.specs.Bytes.{newline}
use Rattle.spec.specs.Text.{Text, byte}
use Rattle.text_laws.specs.Scans.{before, Test, prior, Front, Back}

-- n bytes of a text from a place on
module _ (t : Text) (a n : ℕ) (fits : a + n ≤ length t) where
  pub range_length : length (take n (drop a t)) ≡ n
  range_length = omega (arith, length-take n (drop a t), length-drop a t)

  pub range_byte : (i : ℕ) → i < n → get_or (take n (drop a t)) i 0 ≡ byte t (a + i)
  range_byte i h = get_or-take n (drop a t) i 0 h ∙ get_or-drop a t i 0 ∙ get_or_default t (a + i) 0 newline (omega arith)

  pub range_prior : (p : ℕ) → p ≡ before t a → (i : ℕ) → i ≤ n → prior p (take n (drop a t)) i ≡ before t (a + i)
  range_prior p e zero h = let s : a + 0 ≡ a = omega arith in e ∙ ap (before t) (sym s)
  range_prior p e (suc i) h = let s : a + suc i ≡ suc (a + i) = omega arith in range_byte i h ∙ ap (before t) (sym s)

  module _ (f : Test) (p : ℕ) (e : p ≡ before t a) where
    range_test : (i : ℕ) → i < n → f (before t (a + i)) (byte t (a + i)) ≡ f (prior p (take n (drop a t)) i) (get_or (take n (drop a t)) i 0)
    range_test i h = ap (λ x. f x (byte t (a + i))) (sym (range_prior p e i (omega arith))) ∙ ap (f (prior p (take n (drop a t)) i)) (sym (range_byte i h))

    range_test_at : (i j : ℕ) → i ≡ a + j → j < n → f (before t i) (byte t i) ≡ f (prior p (take n (drop a t)) j) (get_or (take n (drop a t)) j 0)
    range_test_at i j s h = ap (λ z. f (before t z) (byte t z)) s ∙ range_test j h

    pub front_passes : (k : ℕ) → Front f p (take n (drop a t)) k → (i : ℕ) → a ≤ i → i < a + k → f (before t i) (byte t i) ≡ true
    front_passes k h i l m =
        range_test_at i (i - a) (omega arith) (omega (arith, h.within, range_length)) ∙ h.passes (i - a) (omega arith)

    pub front_stops : (k : ℕ) → Front f p (take n (drop a t)) k → k < n → f (before t (a + k)) (byte t (a + k)) ≡ false
    front_stops k h l = range_test k l ∙ h.stops (omega (arith, range_length))

    pub back_passes : (k : ℕ) → Back f p (take n (drop a t)) k → (i : ℕ) → a + k ≤ i → i < a + n → f (before t i) (byte t i) ≡ true
    back_passes k h i l m =
        range_test_at i (i - a) (omega arith) (omega arith) ∙ h.passes (i - a) (omega arith) (omega (arith, range_length))

    pub back_stops : (k : ℕ) → Back f p (take n (drop a t)) k → 0 < k → f (before t (a + k - 1)) (byte t (a + k - 1)) ≡ false
    back_stops k h l =
        range_test_at (a + k - 1) (k - 1) (omega arith) (omega (arith, h.within, range_length)) ∙ h.stops l
