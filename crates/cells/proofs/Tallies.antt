-- Laws of `hit`, `occ`, `ins` and `Chain`.
use Rattle.std.proofs.Common.{◌≡◌, ℕ, zero, suc, ◌+◌, ◌<◌, ◌≤◌, eqb, ◌≢◌, List, [], ◌∷◌, ◌++◌, length, sym, refl, ap, subst, inl, inr, add-one, arith}
use Rattle.std.proofs.lemmas.Bool.{eq-eqb, ne_eqb, cond-true, cond-false, cases_eq}
use Rattle.cells.specs.Layout.{at}
use Rattle.cells.specs.Sound.{hit, occ, ins, Chain}

pub hit_eq : (a p : ℕ) → a ≡ p → hit a p ≡ 1
unfolding hit
hit_eq a p e = cond-true (eqb a p) 1 0 (eq-eqb a p e)

pub hit_ne : (a p : ℕ) → a ≢ p → hit a p ≡ 0
unfolding hit
hit_ne a p e = cond-false (eqb a p) 1 0 (ne_eqb a p e)

pub hit_le : (a p : ℕ) → hit a p ≤ 1
hit_le a p = elim (cases_eq a p) [ inl e ↦ omega (arith, hit_eq a p e) | inr e ↦ omega (arith, hit_ne a p e) ]

pub occ_le : (p : ℕ) (xs : List ℕ) → occ p xs ≤ length xs
occ_le p [] = omega arith
occ_le p (x ∷ xs) = omega (arith, occ_le p xs, hit_le x p)

pub ins_le : (m : List ℕ) (k p n : ℕ) → ins m k p n ≤ n
unfolding ins
ins_le m k p zero = omega arith
ins_le m k p (suc n) = omega (arith, ins_le m k p n, hit_le (at m (8 + n) k) p)

pub ins_more : (m : List ℕ) (k p n : ℕ) → ins m k p (n + 1) ≡ ins m k p n + hit (at m (8 + n) k) p
unfolding ins
ins_more m k p n = rw add-one refl

-- rows that agree in word k of each cell
pub ins_same : (m m' : List ℕ) (k p n : ℕ) → ((q : ℕ) → 8 ≤ q → q < 8 + n → at m' q k ≡ at m q k) → ins m' k p n ≡ ins m k p n
unfolding ins
ins_same m m' k p zero same = refl
ins_same m m' k p (suc n) same =
    omega (
      arith,
      ins_same m m' k p n (λ q lo hi. same q lo (omega arith)),
      ap (λ z. hit z p) (same (8 + n) (omega arith) (omega arith)),
    )

-- rows that agree in word k of each cell but d: what it was there is one fewer, and what it is one more
pub ins_change : (m m' : List ℕ) (k d p n : ℕ) → 8 ≤ d → d < 8 + n → ((q : ℕ) → 8 ≤ q → q ≢ d → at m' q k ≡ at m q k)
    → ins m' k p n + hit (at m d k) p ≡ ins m k p n + hit (at m' d k) p
unfolding ins
ins_change m m' k d p zero lo hi same = absurd (omega arith)
ins_change m m' k d p (suc n) lo hi same =
    elim (cases_eq d (8 + n)) [
      | inl e ↦
          omega (
            arith,
            ins_same m m' k p n (λ q lq hq. same q lq (omega arith)),
            ap (λ z. hit (at m z k) p) e,
            ap (λ z. hit (at m' z k) p) e,
          )
      | inr ne ↦
          omega (
            arith,
            ins_change m m' k d p n lo (omega arith) same,
            ap (λ z. hit z p) (same (8 + n) (omega arith) (λ e. ne (sym e))),
          )
    ]

-- a cell that names p
pub ins_one : (m : List ℕ) (k p q n : ℕ) → 8 ≤ q → q < 8 + n → at m q k ≡ p → 1 ≤ ins m k p n
unfolding ins
ins_one m k p q zero lo hi e = absurd (omega arith)
ins_one m k p q (suc n) lo hi e =
    elim (cases_eq q (8 + n)) [
      | inl s ↦ omega (arith, hit_eq (at m (8 + n) k) p (subst (λ z. at m z k ≡ p) s e))
      | inr s ↦ omega (arith, ins_one m k p q n lo (omega arith) e)
    ]

pub ins_none : (m : List ℕ) (k p n : ℕ) → ((q : ℕ) → 8 ≤ q → q < 8 + n → at m q k ≢ p) → ins m k p n ≡ 0
unfolding ins
ins_none m k p zero away = refl
ins_none m k p (suc n) away =
    omega (arith, ins_none m k p n (λ q lo hi. away q lo (omega arith)), hit_ne (at m (8 + n) k) p (away (8 + n) (omega arith) (omega arith)))

-- a cell that is counted as a child has a parent
pub ins_find : (m : List ℕ) (k p n : ℕ) → 1 ≤ ins m k p n → (q : ℕ) × (8 ≤ q) × (q < 8 + n) × (at m q k ≡ p)
unfolding ins
ins_find m k p zero h = absurd (omega arith)
ins_find m k p (suc n) h =
    elim (cases_eq (at m (8 + n) k) p) [
      | inl e ↦ (8 + n, omega arith, omega arith, e)
      | inr ne ↦ (let r = ins_find m k p n (omega (arith, hit_ne (at m (8 + n) k) p ne)) in (r.0, r.1, omega (arith, r.2), r.3))
    ]

pub chain_move : (m m' : List ℕ) (a : ℕ) (ds : List ℕ) → Chain m a ds → ((q : ℕ) → 0 < occ q ds → at m' q 3 ≡ at m q 3) → Chain m' a ds
chain_move m m' a [] c same = c
chain_move m m' a (d ∷ ds) c same = (
  c.0,
  subst (λ z. Chain m' z ds) (sym (same d (omega (arith, hit_eq d d refl)))) (chain_move m m' (at m d 3) ds c.1 (λ q h. same q (omega arith))),
)

pub occ_append : (q : ℕ) (xs ys : List ℕ) → occ q (xs ++ ys) ≡ occ q xs + occ q ys
occ_append q [] ys = omega arith
occ_append q (x ∷ xs) ys = omega (arith, occ_append q xs ys)
