-- A list with the elements from place a up to place b replaced, which is take a t ++ (new ++ drop b t):
-- its length, what stands in it, and that what was taken away can be put back.
use Rattle.std.proofs.Common.{◌≡◌, ℕ, ◌+◌, ◌-◌, ◌<◌, ◌≤◌, List, ◌++◌, length, take, drop, sym, ap, ◌∙◌, ⊎_elim, append_assoc, arith, length-append, length-drop, take-append-drop, length-take, drop-drop}
use lib.Seq.{take-append_seam}
use Rattle.std.proofs.lemmas.List.{take_at, drop_at, take_all, drop_all}
use Rattle.std.proofs.lemmas.Bool.{cases_lt}

module _ {A : Type 0} where
  pub length_replaced : (t new : List A) (a b : ℕ) → a ≤ length t → length (take a t ++ (new ++ drop b t)) ≡ a + (length new + (length t - b))
  length_replaced t new a b h = simp (length-append, length-take, length-drop) (omega arith)

  pub length_replaced_le : (t new : List A) (a b : ℕ) → a ≤ b → length (take a t ++ (new ++ drop b t)) ≤ length t + length new
  length_replaced_le t new a b h = simp (length-append, length-take, length-drop) (omega arith)

  -- what stands before, in the place of and behind what was taken away
  pub take_replaced : (t new rest : List A) (a : ℕ) → a ≤ length t → take a (take a t ++ (new ++ rest)) ≡ take a t
  take_replaced t new rest a h = take_at (take a t) (new ++ rest) a (simp length-take (omega arith))

  pub drop_replaced : (t new rest : List A) (a : ℕ) → a ≤ length t → drop (a + length new) (take a t ++ (new ++ rest)) ≡ rest
  drop_replaced t new rest a h =
      rw (← append_assoc (take a t) new rest) (drop_at (take a t ++ new) rest (a + length new) (simp (length-append, length-take) (omega arith)))

  pub part_replaced : (t new rest : List A) (a : ℕ) → a ≤ length t → take (length new) (drop a (take a t ++ (new ++ rest))) ≡ new
  part_replaced t new rest a h =
      rw (drop_at (take a t) (new ++ rest) a (simp length-take (omega arith))) (take-append_seam new rest)

  -- a list is what stands before n elements, these, and what stands behind them
  pub in_three : (t : List A) (a n : ℕ) → take a t ++ (take n (drop a t) ++ drop (a + n) t) ≡ t
  in_three t a n = rw (← drop-drop n a t, take-append-drop n (drop a t)) (take-append-drop a t)

  -- what was taken away is put back
  pub put_back : (t old new : List A) (a : ℕ) → a ≤ length t → take (length old) (drop a t) ≡ old → take a (take a t ++ (new ++ drop (a + length old) t)) ++ (old ++ drop (a + length new) (take a t ++ (new ++ drop (a + length old) t))) ≡ t
  put_back t old new a h e =
      rw (take_replaced t new (drop (a + length old) t) a h, drop_replaced t new (drop (a + length old) t) a h) (ap {B = List A} (λ r. take a t ++ (r ++ drop (a + length old) t)) (sym e) ∙ in_three t a (length old))

  -- the elements from a up to b are as many as are there, also where b lies behind the list
  pub take_own : (n : ℕ) (t : List A) → take (length (take n t)) t ≡ take n t
  take_own n t =
      ⊎_elim (λ (k : n < length t). ap (λ m. take m t) (length-take n t ∙ omega arith)) (λ (k : length t ≤ n). take_all (length (take n t)) t (simp length-take (omega arith)) ∙ sym (take_all n t k)) (cases_lt n (length t))

  pub drop_behind : (t : List A) (a b : ℕ) → a ≤ b → drop (a + length (take (b - a) (drop a t))) t ≡ drop b t
  drop_behind t a b h =
      ⊎_elim (λ (k : b < length t). ap (λ n. drop n t) (simp (length-take, length-drop) (omega arith))) (λ (k : length t ≤ b). drop_all (a + length (take (b - a) (drop a t))) t (simp (length-take, length-drop) (omega arith)) ∙ sym (drop_all b t k)) (cases_lt b (length t))
