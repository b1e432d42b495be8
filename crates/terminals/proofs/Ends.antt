-- Where two rows end in the same cells, and where a row ends in blanks.
use Rattle.std.proofs.Common.{◌≡◌, ℕ, ◌+◌, ◌-◌, ◌<◌, ◌≤◌, length, get_or, drop, replicate, sym, ap, ◌∙◌, ⊎_elim, arith}
use Rattle.std.proofs.lemmas.List.{get_or-drop, get_or-replicate}
use Rattle.std.proofs.lemmas.Bool.{cases_lt}
use Rattle.spec.specs.Screen.{Row, blank}

-- the same end begins behind a cell that differs
pub end_behind : (xs ys : Row) (e k : ℕ) → 0 < e → (get_or xs (e - 1) 0 ≡ get_or ys (e - 1) 0 → ⊥) → drop k xs ≡ drop k ys → e ≤ k
end_behind xs ys e k z d h =
    ⊎_elim
    (λ (o : k < e).
    let q : k + (e - 1 - k) ≡ e - 1 = omega arith in
    absurd (d (ap (get_or' xs) (sym q) ∙ sym (get_or-drop k xs (e - 1 - k) 0) ∙ ap (λ (r : Row). get_or r (e - 1 - k) 0) h ∙ get_or-drop k ys (e - 1 - k) 0 ∙ ap (get_or' ys) q)))
    (λ (o : e ≤ k). o)
    (cases_lt k e)
  where
    get_or' : Row → ℕ → ℕ
    get_or' r i = get_or r i 0

pub end_past : (xs ys : Row) (a k : ℕ) → (get_or xs a 0 ≡ get_or ys a 0 → ⊥) → drop k xs ≡ drop k ys → a < k
end_past xs ys a k d h =
    let q : a + 1 - 1 ≡ a = omega arith in
    let r : a + 1 ≤ k = end_behind xs ys (a + 1) k (omega arith) (rw q d) h in
    omega arith

-- the blanks begin behind a cell that is none
pub blanks_behind : (xs : Row) (e k : ℕ) → 0 < e → e ≤ length xs → (get_or xs (e - 1) 0 ≡ blank → ⊥) → drop k xs ≡ replicate (length xs - k) blank → e ≤ k
blanks_behind xs e k z l d h =
    ⊎_elim
    (λ (o : k < e).
    let q : k + (e - 1 - k) ≡ e - 1 = omega arith in
    absurd (d (ap (λ (i : ℕ). get_or xs i 0) (sym q) ∙ sym (get_or-drop k xs (e - 1 - k) 0) ∙ ap (λ (r : Row). get_or r (e - 1 - k) 0) h ∙ get_or-replicate (length xs - k) (e - 1 - k) blank 0 (omega arith))))
    (λ (o : e ≤ k). o)
    (cases_lt k e)
