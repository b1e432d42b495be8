-- Laws of a list with zeros behind it.
use Rattle.std.proofs.Common.{◌≡◌, ℕ, ◌+◌, ◌-◌, ◌<◌, ◌≤◌, List, [], ◌∷◌, ◌++◌, length, get_or, set, sym, refl, ap, ◌∙◌, inl, inr, append_assoc, arith}
use Rattle.std.proofs.lemmas.List.{append-nil, length-append, length-replicate, get_or_append_left, get_or-append_right, get_or-replicate, get_or_past, replicate-append-replicate, set-append_left, length-set}
use Rattle.std.proofs.lemmas.Bool.{cases_lt}
use Rattle.words.specs.Padded.{padded, zeros}

pub length_zeros : (n : ℕ) → length (zeros n) ≡ n
unfolding zeros
length_zeros n = length-replicate n 0

pub zeros_append : (m n : ℕ) → zeros m ++ zeros n ≡ zeros (m + n)
unfolding zeros
zeros_append m n = replicate-append-replicate m n 0

pub zeros_none : zeros 0 ≡ []
unfolding zeros
zeros_none = refl

zeros_one : zeros 1 ≡ 0 ∷ []
unfolding zeros
zeros_one = refl

zeros_get : (n i : ℕ) → get_or (zeros n) i 0 ≡ 0
unfolding zeros
zeros_get n i =
    elim (cases_lt i n) [
      | inl h ↦ get_or-replicate n i 0 0 h
      | inr h ↦ get_or_past (zeros n) i 0 (omega (arith, length_zeros n))
    ]

padded_long : (xs : List ℕ) (n : ℕ) → length (padded xs n) ≡ length xs + (n - length xs)
padded_long xs n = simp (length-append, length_zeros)

pub padded_length : (xs : List ℕ) (n : ℕ) → length xs ≤ n → length (padded xs n) ≡ n
padded_length xs n h = omega (arith, padded_long xs n)

pub padded_within : (xs : List ℕ) (n m : ℕ) → length xs ≤ m → n ≤ m → length (padded xs n) ≤ m
padded_within xs n m h k = omega (arith, padded_long xs n)

pub padded_get : (xs : List ℕ) (n i : ℕ) → get_or (padded xs n) i 0 ≡ get_or xs i 0
padded_get xs n i =
    elim (cases_lt i (length xs)) [
      | inl h ↦ get_or_append_left xs (zeros (n - length xs)) 0 i h
      | inr h ↦ get_or-append_right xs (zeros (n - length xs)) (length xs) i 0 refl h ∙ zeros_get (n - length xs) (i - length xs) ∙ sym (get_or_past xs i 0 h)
    ]

-- zeros behind zeros
pub padded_more : (xs : List ℕ) (n m : ℕ) → n ≤ m → padded (padded xs n) m ≡ padded xs m
padded_more xs n m k =
    let sum : (n - length xs) + (m - (length xs + (n - length xs))) ≡ m - length xs = omega arith in
    ap (λ z. padded xs n ++ zeros (m - z)) (padded_long xs n)
    ∙ append_assoc xs (zeros (n - length xs)) (zeros (m - (length xs + (n - length xs))))
    ∙ ap (λ zs. xs ++ zs) (zeros_append (n - length xs) (m - (length xs + (n - length xs))) ∙ ap zeros sum)

pub padded_enough : (xs : List ℕ) (n : ℕ) → n ≤ length xs → padded xs n ≡ xs
padded_enough xs n h =
    let none : n - length xs ≡ 0 = omega arith in
    ap (λ z. xs ++ zeros z) none ∙ ap (λ zs. xs ++ zs) zeros_none ∙ append-nil xs

pub padded_push : (xs : List ℕ) (n : ℕ) → length xs < n → padded (xs ++ 0 ∷ []) n ≡ padded xs n
padded_push xs n h =
    let one : (length xs + 1) - length xs ≡ 1 = omega arith in
    let pushed : padded xs (length xs + 1) ≡ xs ++ 0 ∷ [] = ap (λ z. xs ++ zeros z) one ∙ ap (λ zs. xs ++ zs) zeros_one in
    ap (λ zs. padded zs n) (sym pushed) ∙ padded_more xs (length xs + 1) n (omega arith)

pub padded_set : (xs : List ℕ) (n i x : ℕ) → i < length xs → padded (set xs i x) n ≡ set (padded xs n) i x
padded_set xs n i x h = rw length-set (sym (set-append_left xs (zeros (n - length xs)) i x h))
