-- Rows of two pictures, mixed.
use Rattle.std.proofs.Common.{◌≡◌, ℕ, zero, suc, ◌+◌, ◌<◌, Bool, true, false, eqb, List, [], ◌∷◌, length, get_or, set, sym, refl, ap, ◌∙◌, ⊎_elim, arith}
use Rattle.std.specs.List.{AllByRecursion}
use Rattle.std.proofs.lemmas.Bool.{cases_Bool, eqb-true, eq-eqb, and_parts, and_from, cond_both}
use Rattle.spec.specs.Screen.{Row}
use Rattle.spec.specs.Promises.{same_row, rows_cost}
use Rattle.terminals.specs.Drawing.{Rectangle}
use Rattle.terminals.specs.Progress.{row_cost, mixed, pending_cost}

-- the same rows are pending, of n
abbrev pub Same : (ℕ → Bool) → (ℕ → Bool) → ℕ → Type 0
Same p q n = (k : ℕ) → k < n → p k ≡ q k

-- row i is pending no more, and the other rows, of n, as before
abbrev pub Without : (ℕ → Bool) → (ℕ → Bool) → ℕ → ℕ → Type 0
Without p q i n = (q i ≡ false) × ((k : ℕ) → k < n → (k ≡ i → ⊥) → p k ≡ q k)

pub mixed_same : (p q : ℕ → Bool) (us vs : List Row) → Same p q (length us) → mixed p us vs ≡ mixed q us vs
unfolding mixed
mixed_same p q [] vs e = refl
mixed_same p q (u ∷ us) [] e = refl
mixed_same p q (u ∷ us) (v ∷ vs) e =
    let a : p 0 ≡ q 0 = e 0 (omega arith) in
    let b : mixed (λ k. p (suc k)) us vs ≡ mixed (λ k. q (suc k)) us vs = mixed_same (λ k. p (suc k)) (λ k. q (suc k)) us vs (λ k h. e (suc k) (omega arith)) in
    rw (a, b)

pub mixed_all : (p : ℕ → Bool) (us vs : List Row) → length us ≡ length vs → Same p (λ k. true) (length us) → mixed p us vs ≡ us
unfolding mixed
mixed_all p [] vs l e = refl
mixed_all p (u ∷ us) [] l e = absurd (omega arith)
mixed_all p (u ∷ us) (v ∷ vs) l e =
    let a : p 0 ≡ true = e 0 (omega arith) in
    rw (a, mixed_all (λ k. p (suc k)) us vs (omega arith) (λ k h. e (suc k) (omega arith)))

pub mixed_none : (p : ℕ → Bool) (us vs : List Row) → length us ≡ length vs → Same p (λ k. false) (length us) → mixed p us vs ≡ vs
unfolding mixed
mixed_none p [] [] l e = refl
mixed_none p [] (v ∷ vs) l e = absurd (omega arith)
mixed_none p (u ∷ us) [] l e = absurd (omega arith)
mixed_none p (u ∷ us) (v ∷ vs) l e =
    let a : p 0 ≡ false = e 0 (omega arith) in
    rw (a, mixed_none (λ k. p (suc k)) us vs (omega arith) (λ k h. e (suc k) (omega arith)))

pub mixed_at : (p : ℕ → Bool) (us vs : List Row) (i : ℕ) → length us ≡ length vs → i < length us → p i ≡ true → get_or (mixed p us vs) i [] ≡ get_or us i []
unfolding mixed
mixed_at p [] vs i l h e = absurd (omega arith)
mixed_at p (u ∷ us) [] i l h e = absurd (omega arith)
mixed_at p (u ∷ us) (v ∷ vs) zero l h e = rw e
mixed_at p (u ∷ us) (v ∷ vs) (suc i) l h e = mixed_at (λ k. p (suc k)) us vs i (omega arith) (omega arith) e

pub mixed_set : (p q : ℕ → Bool) (us vs : List Row) (i : ℕ) → length us ≡ length vs → i < length us → Without p q i (length us) → set (mixed p us vs) i (get_or vs i []) ≡ mixed q us vs
unfolding mixed
mixed_set p q [] vs i l h e = absurd (omega arith)
mixed_set p q (u ∷ us) [] i l h e = absurd (omega arith)
mixed_set p q (u ∷ us) (v ∷ vs) zero l h e =
    let a : q 0 ≡ false = e.0 in
    rw (a, mixed_same (λ k. p (suc k)) (λ k. q (suc k)) us vs (λ k h. e.1 (suc k) (omega arith) (λ z. omega arith)))
mixed_set p q (u ∷ us) (v ∷ vs) (suc i) l h e =
    let a : p 0 ≡ q 0 = e.1 0 (omega arith) (λ z. omega arith) in
    rw (a, mixed_set (λ k. p (suc k)) (λ k. q (suc k)) us vs i (omega arith) (omega arith) (e.0, λ k h n. e.1 (suc k) (omega arith) (λ z. n (omega arith))))

mixed_height : (p : ℕ → Bool) (us vs : List Row) → length us ≡ length vs → length (mixed p us vs) ≡ length us
unfolding mixed
mixed_height p [] vs l = refl
mixed_height p (u ∷ us) [] l = absurd (omega arith)
mixed_height p (u ∷ us) (v ∷ vs) l = ap suc (mixed_height (λ k. p (suc k)) us vs (omega arith))

mixed_width : (c : ℕ) (p : ℕ → Bool) (us vs : List Row) → AllByRecursion (λ (r : Row). length r ≡ c) us → AllByRecursion (λ (r : Row). length r ≡ c) vs → AllByRecursion (λ (r : Row). length r ≡ c) (mixed p us vs)
unfolding mixed
mixed_width c p [] vs x y = tt
mixed_width c p (u ∷ us) [] x y = tt
mixed_width c p (u ∷ us) (v ∷ vs) x y = (cond_both (p 0) u v (λ (r : Row). length r ≡ c) (λ _. x.0) (λ _. y.0), mixed_width c (λ k. p (suc k)) us vs x.1 y.1)

pub mixed_rectangle : (rows columns : ℕ) (p : ℕ → Bool) (us vs : List Row) → Rectangle rows columns us → Rectangle rows columns vs → Rectangle rows columns (mixed p us vs)
mixed_rectangle rows columns p us vs a b = record { height = mixed_height p us vs (a.height ∙ sym b.height) ∙ a.height; width = mixed_width columns p us vs a.width b.width }

-- the cost of the pending rows
pub cost_all : (c : ℕ) (p : ℕ → Bool) (us vs : List Row) → Same p (λ k. true) (length us) → pending_cost c p us vs ≡ rows_cost c us vs
unfolding pending_cost
cost_all c p [] vs e = refl
cost_all c p (u ∷ us) [] e = refl
cost_all c p (u ∷ us) (v ∷ vs) e =
    let a : p 0 ≡ true = e 0 (omega arith) in
    rw (a, cost_all c (λ k. p (suc k)) us vs (λ k h. e (suc k) (omega arith)))

pub cost_same : (c : ℕ) (p q : ℕ → Bool) (us vs : List Row) → Same p q (length us) → pending_cost c p us vs ≡ pending_cost c q us vs
unfolding pending_cost
cost_same c p q [] vs e = refl
cost_same c p q (u ∷ us) [] e = refl
cost_same c p q (u ∷ us) (v ∷ vs) e =
    let a : p 0 ≡ q 0 = e 0 (omega arith) in
    rw (a, cost_same c (λ k. p (suc k)) (λ k. q (suc k)) us vs (λ k h. e (suc k) (omega arith)))

pub cost_without : (c : ℕ) (p q : ℕ → Bool) (us vs : List Row) (i : ℕ) → length us ≡ length vs → i < length us → p i ≡ true → Without p q i (length us) → pending_cost c p us vs ≡ row_cost c (get_or us i []) (get_or vs i []) + pending_cost c q us vs
unfolding pending_cost
cost_without c p q [] vs i l h t e = absurd (omega arith)
cost_without c p q (u ∷ us) [] i l h t e = absurd (omega arith)
cost_without c p q (u ∷ us) (v ∷ vs) zero l h t e =
    let a : q 0 ≡ false = e.0 in
    let b = cost_same c (λ k. p (suc k)) (λ k. q (suc k)) us vs (λ k h. e.1 (suc k) (omega arith) (λ z. omega arith)) in
    rw (t, a, b) (omega arith)
cost_without c p q (u ∷ us) (v ∷ vs) (suc i) l h t e =
    let a : p 0 ≡ q 0 = e.1 0 (omega arith) (λ z. omega arith) in
    let b = cost_without c (λ k. p (suc k)) (λ k. q (suc k)) us vs i (omega arith) (omega arith) t (e.0, λ k h n. e.1 (suc k) (omega arith) (λ z. n (omega arith))) in
    rw (a, b) (omega arith)

pub same_rows : (xs ys : Row) → same_row xs ys ≡ true → xs ≡ ys
same_rows [] [] e = refl
same_rows [] (y ∷ ys) e = let z : ◌≡◌ {A = ℕ} 0 1 = cc in absurd (omega arith)
same_rows (x ∷ xs) [] e = let z : ◌≡◌ {A = ℕ} 0 1 = cc in absurd (omega arith)
same_rows (x ∷ xs) (y ∷ ys) e =
    let p = and_parts (eqb x y) (same_row xs ys) e in
    let a : x ≡ y = eqb-true x y p.0 in
    let b : xs ≡ ys = same_rows xs ys p.1 in
    cc

pub row_same : (xs : Row) → same_row xs xs ≡ true
row_same [] = refl
row_same (x ∷ xs) = and_from (eqb x x) (same_row xs xs) (eq-eqb x x refl) (row_same xs)

-- a row that differs costs, one that does not is free
pub differs_cost : (c : ℕ) (old new : Row) → (old ≡ new → ⊥) → row_cost c old new ≡ 16 + c
differs_cost c old new d = ⊎_elim (λ (s : same_row old new ≡ true). absurd (d (same_rows old new s))) (λ (s : same_row old new ≡ false). rw s) (cases_Bool (same_row old new))

-- equal pictures cost nothing
pub same_cost : (c : ℕ) (us : List Row) → rows_cost c us us ≡ 0
same_cost c [] = refl
same_cost c (u ∷ us) = rw (row_same u, same_cost c us)
