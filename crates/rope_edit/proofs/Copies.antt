-- A rope many times behind another: its steps, its bytes and its height.
use Rattle.std.proofs.Common.{◌≡◌, ℕ, zero, suc, ◌+◌, ◌*◌, ◌/◌, ◌%◌, ◌^◌, ◌<◌, ◌≤◌, max, eqb, List, length, refl, ap, ◌∙◌, ⊎_elim, mul-le-mul_right, suc-mul, add-mul, pow-suc, mul-add, arith, length-append}
use Rattle.std.proofs.lemmas.Bool.{eq-eqb, ne_eqb, eqb-true, eqb-false, cond_both, cond-true, cond-false, cases_lt}
use Rattle.spec.specs.Text.{copies}
use Rattle.ropes.specs.Rope.{Rope, empty, bytes, size, height, Whole}
use Rattle.ropes.specs.Join.{concat}
use Rattle.ropes.specs.Cut.{repeat_onto}
use Rattle.ropes.proofs.Joins.{concat_ok}
use Rattle.ropes.proofs.Cuts.{size_bytes, size_of, size_concat}
use Rattle.ropes.proofs.Edits.{bytes_repeat, repeat_whole}
use Rattle.rope.specs.Cutting.{Short}
use Rattle.rope_edit.specs.Editing.{odd_onto}

-- n of them are half as many of two, and one more where n is odd
halves : (n s : ℕ) → n * s ≡ n / 2 * (s + s) + n % 2 * s
halves n s =
    let e : n ≡ (n / 2 + n / 2) + n % 2 = omega arith in
    ap (λ z. z * s) e ∙ omega (arith, add-mul (n / 2 + n / 2) (n % 2) s, add-mul (n / 2) (n / 2) s, mul-add (n / 2) s s)

pub two_few : (n s : ℕ) → 2 ≤ n → s + s ≤ n * s
two_few n s h = let k : 2 * s ≤ n * s = mul-le-mul_right s h in omega arith

pub one_few : (n s : ℕ) → n ≡ 1 → n * s ≡ s
one_few n s e = ap (λ z. z * s) e ∙ omega arith

-- what an odd one is added to has the bytes that are left over
pub odd_size : (n : ℕ) (u v : Rope) → size (odd_onto n u v) + n / 2 * size (concat v v) ≡ size u + n * size v
odd_size n u v =
    let s = size v in
    let twice : n / 2 * size (concat v v) ≡ n / 2 * (s + s) = ap (λ z. n / 2 * z) (size_concat v v) in
    cond_both (eqb (n % 2) 0) u (concat u v) (λ z. size z + n / 2 * size (concat v v) ≡ size u + n * s)
    (λ e. let k : n % 2 * s ≡ 0 * s = ap (λ z. z * s) (eqb-true _ _ e) in omega (arith, halves n s))
    (λ e. let odd : n % 2 ≡ 0 → ⊥ = eqb-false _ _ e in
    let one : n % 2 ≡ 1 = omega arith in
    let k : n % 2 * s ≡ 1 * s = ap (λ z. z * s) one in
    omega (arith, halves n s, size_concat u v))

pub odd_whole : (n : ℕ) (u v : Rope) → Whole u → Whole v → Whole (odd_onto n u v)
odd_whole n u v wu wv = cond_both (eqb (n % 2) 0) u (concat u v) Whole (λ _. wu) (λ _. (concat_ok u v wu wv).whole)

odd_high : (n : ℕ) (u v : Rope) → Whole u → Whole v → height u ≤ height (odd_onto n u v)
odd_high n u v wu wv = cond_both (eqb (n % 2) 0) u (concat u v) (λ z. height u ≤ height z) (λ _. omega arith) (λ _. omega (arith, (concat_ok u v wu wv).low))

pub halved : (n k : ℕ) → n < 2 ^ suc k → n / 2 < 2 ^ k
halved n k h = let e : 2 ^ suc k ≡ 2 ^ k * 2 = pow-suc 2 k in omega arith

-- the steps
pub repeat_none : (steps : ℕ) (u v : Rope) (n : ℕ) → n ≡ 0 → repeat_onto steps u v n ≡ u
unfolding repeat_onto
repeat_none zero u v n e = refl
repeat_none (suc steps) u v n e = cond-true _ _ _ (eq-eqb _ _ e)

pub repeat_one : (steps : ℕ) (u v : Rope) (n : ℕ) → n ≡ 1 → repeat_onto (suc steps) u v n ≡ concat u v
unfolding repeat_onto
repeat_one steps u v n e = cond-false _ _ _ (ne_eqb _ _ (λ (z : n ≡ 0). omega arith)) ∙ cond-true _ _ _ (eq-eqb (n / 2) 0 (omega arith))

pub repeat_more : (steps : ℕ) (u v : Rope) (n : ℕ) → 2 ≤ n → repeat_onto (suc steps) u v n ≡ repeat_onto steps (odd_onto n u v) (concat v v) (n / 2)
unfolding repeat_onto
repeat_more steps u v n h =
    let some = ne_eqb n 0 (λ (z : n ≡ 0). omega arith) in
    let more = ne_eqb (n / 2) 0 (λ (z : n / 2 ≡ 0). omega arith) in
    cond-false _ _ _ some ∙ cond-false _ _ _ more

-- neither rope is higher than the result
pub repeat_high : (steps : ℕ) (u v : Rope) (n : ℕ) → Whole u → Whole v → 1 ≤ n → n < 2 ^ steps → max (height u) (height v) ≤ height (repeat_onto steps u v n)
repeat_high zero u v n wu wv some fits = absurd (omega arith)
repeat_high (suc steps) u v n wu wv some fits =
    ⊎_elim
    (λ (q : n < 2). omega (arith, ap height (repeat_one steps u v n (omega arith)), (concat_ok u v wu wv).low))
    (λ (q : 2 ≤ n).
    let twice = concat_ok v v wv wv in
    let all = repeat_high steps (odd_onto n u v) (concat v v) (n / 2) (odd_whole n u v wu wv) twice.whole (omega arith) (halved n steps fits) in
    omega (arith, ap height (repeat_more steps u v n q), all, twice.low, odd_high n u v wu wv))
    (cases_lt n 2)

length_copies : (n : ℕ) (xs : List ℕ) → length (copies n xs) ≡ n * length xs
unfolding copies
length_copies zero xs = omega arith
length_copies (suc n) xs = omega (arith, length-append xs (copies n xs), length_copies n xs, suc-mul n (length xs))

pub repeat_bytes : (steps : ℕ) (t : Rope) (n : ℕ) → n < 2 ^ steps → bytes (repeat_onto steps empty t n) ≡ copies n (bytes t)
repeat_bytes steps t n h = bytes_repeat steps empty t n h

pub repeat_short : (steps : ℕ) (t : Rope) (n : ℕ) → n < 2 ^ steps → Whole t → n * size t < 536870912 → Short (repeat_onto steps empty t n)
repeat_short steps t n h w few =
    let e : n * size t ≡ n * length (bytes t) = ap (λ z. n * z) (size_bytes t) in
    record { whole = repeat_whole steps empty t n tt w; few = omega (arith, size_of (repeat_onto steps empty t n) _ (repeat_bytes steps t n h), length_copies n (bytes t)) }
