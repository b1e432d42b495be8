-- Numbers up to 9,999 in decimal, digit by digit.
use Rattle.std.proofs.Common.{◌≡◌, ℕ, ◌+◌, ◌/◌, ◌%◌, ◌<◌, ◌≤◌, List, [], ◌∷◌, length, ⊎_elim, arith}
use Rattle.std.proofs.lemmas.Bool.{lt-ltb, le-ltb, cases_lt}
use Rattle.spec.specs.Screen.{digits_before, decimal}
use Rattle.spec.specs.Terminal.{more_number}

pub decimal_one : (n : ℕ) → n < 10 → decimal n ≡ (48 + n) ∷ []
unfolding decimal digits_before
decimal_one n h = rw (lt-ltb n 10 h)

pub decimal_two : (n : ℕ) → 10 ≤ n → n < 100 → decimal n ≡ (48 + n / 10) ∷ (48 + n % 10) ∷ []
unfolding decimal digits_before
decimal_two n h k =
    let a : n / 10 < 10 = omega arith in
    rw (le-ltb n 10 h, lt-ltb (n / 10) 10 a)

pub decimal_three : (n : ℕ) → 100 ≤ n → n < 1000 → decimal n ≡ (48 + n / 10 / 10) ∷ (48 + n / 10 % 10) ∷ (48 + n % 10) ∷ []
unfolding decimal digits_before
decimal_three n h k =
    let a : 10 ≤ n = omega arith in
    let b : 10 ≤ n / 10 = omega arith in
    let c : n / 10 / 10 < 10 = omega arith in
    rw (le-ltb n 10 a, le-ltb (n / 10) 10 b, lt-ltb (n / 10 / 10) 10 c)

pub decimal_four : (n : ℕ) → 1000 ≤ n → n < 10000 → decimal n ≡ (48 + n / 10 / 10 / 10) ∷ (48 + n / 10 / 10 % 10) ∷ (48 + n / 10 % 10) ∷ (48 + n % 10) ∷ []
unfolding decimal digits_before
decimal_four n h k =
    let a : 10 ≤ n = omega arith in
    let b : 10 ≤ n / 10 = omega arith in
    let c : 10 ≤ n / 10 / 10 = omega arith in
    let d : n / 10 / 10 / 10 < 10 = omega arith in
    rw (le-ltb n 10 a, le-ltb (n / 10) 10 b, le-ltb (n / 10 / 10) 10 c, lt-ltb (n / 10 / 10 / 10) 10 d)

-- digits that make a number m of a number n, as a terminal reads them
abbrev pub Digits : List ℕ → ℕ → ℕ → Type 0
Digits [] n m = n ≡ m
Digits (d ∷ ds) n m = (48 ≤ d) × (d ≤ 57) × Digits ds (more_number n d) m

more_is : (m : ℕ) → m ≤ 9999 → more_number (m / 10) (48 + m % 10) ≡ m
more_is m h = omega arith

more_first : (m : ℕ) → m < 10 → more_number 0 (48 + m) ≡ m
more_first m h = omega arith

pub decimal_digits : (n : ℕ) → n ≤ 9999 → Digits (decimal n) 0 n
decimal_digits n h =
    ⊎_elim
    (λ (a : n < 10). rw (decimal_one n a) (omega arith, omega arith, more_first n a))
    (λ (a : 10 ≤ n). ⊎_elim
    (λ (b : n < 100). rw (decimal_two n a b) (omega arith, omega arith, (omega arith, omega arith, rw (more_first (n / 10) (omega arith), more_is n h))))
    (λ (b : 100 ≤ n). ⊎_elim
    (λ (c : n < 1000). rw (decimal_three n b c) (omega arith, omega arith, (omega arith, omega arith, (omega arith, omega arith, rw (more_first (n / 10 / 10) (omega arith), more_is (n / 10) (omega arith), more_is n h)))))
    (λ (c : 1000 ≤ n). rw (decimal_four n c (omega arith)) (omega arith, omega arith, (omega arith, omega arith, (omega arith, omega arith, (omega arith, omega arith, rw (more_first (n / 10 / 10 / 10) (omega arith), more_is (n / 10 / 10) (omega arith), more_is (n / 10) (omega arith), more_is n h))))))
    (cases_lt n 1000))
    (cases_lt n 100))
    (cases_lt n 10)

-- four digits at most
pub decimal_short : (n : ℕ) → n ≤ 9999 → length (decimal n) ≤ 4
decimal_short n h =
    ⊎_elim
    (λ (a : n < 10). rw (decimal_one n a) (omega arith))
    (λ (a : 10 ≤ n). ⊎_elim
    (λ (b : n < 100). rw (decimal_two n a b) (omega arith))
    (λ (b : 100 ≤ n). ⊎_elim
    (λ (c : n < 1000). rw (decimal_three n b c) (omega arith))
    (λ (c : 1000 ≤ n). rw (decimal_four n c (omega arith)) (omega arith))
    (cases_lt n 1000))
    (cases_lt n 100))
    (cases_lt n 10)
