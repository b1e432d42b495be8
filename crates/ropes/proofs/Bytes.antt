-- Bytes put together and taken apart are bytes.
use Rattle.std.proofs.Common.{ℕ, zero, suc, ◌<◌, List, [], ◌∷◌, ◌++◌, length, get_or, take, drop, arith}
use Rattle.ropes.specs.Rope.{Octets}

pub octets_append : (xs ys : List ℕ) → Octets xs → Octets ys → Octets (xs ++ ys)
unfolding Octets
octets_append [] ys a b = b
octets_append (x ∷ xs) ys a b = (a.0, octets_append xs ys a.1 b)

pub octets_left : (xs ys : List ℕ) → Octets (xs ++ ys) → Octets xs
unfolding Octets
octets_left [] ys a = tt
octets_left (x ∷ xs) ys a = (a.0, octets_left xs ys a.1)

pub octets_right : (xs ys : List ℕ) → Octets (xs ++ ys) → Octets ys
unfolding Octets
octets_right [] ys a = a
octets_right (x ∷ xs) ys a = octets_right xs ys a.1

pub octets_take : (n : ℕ) (xs : List ℕ) → Octets xs → Octets (take n xs)
unfolding Octets
octets_take zero [] a = tt
octets_take zero (x ∷ xs) a = tt
octets_take (suc n) [] a = tt
octets_take (suc n) (x ∷ xs) a = (a.0, octets_take n xs a.1)

pub octets_drop : (n : ℕ) (xs : List ℕ) → Octets xs → Octets (drop n xs)
unfolding Octets
octets_drop zero [] a = a
octets_drop zero (x ∷ xs) a = a
octets_drop (suc n) [] a = tt
octets_drop (suc n) (x ∷ xs) a = octets_drop n xs a.1

pub octets_at : (xs : List ℕ) (i : ℕ) → Octets xs → get_or xs i 0 < 256
unfolding Octets
octets_at [] zero a = omega arith
octets_at [] (suc i) a = omega arith
octets_at (x ∷ xs) zero a = a.0
octets_at (x ∷ xs) (suc i) a = octets_at xs i a.1

pub octets_each : (xs : List ℕ) → ((i : ℕ) → i < length xs → get_or xs i 0 < 256) → Octets xs
unfolding Octets
octets_each [] h = tt
octets_each (x ∷ xs) h = (h 0 (omega arith), octets_each xs (λ i k. h (suc i) (omega arith)))
