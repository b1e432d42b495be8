-- Laws of lists: a write, a part of a list, and a list with another written over it.
use Rattle.std.proofs.Common.{◌≡◌, ℕ, ◌+◌, ◌-◌, ◌<◌, ◌≤◌, min, List, [], ◌∷◌, ◌++◌, length, get_or, take, drop, set, sym, refl, ap, ◌∙◌, append_assoc, arith}
use Rattle.std.proofs.lemmas.List.{length-take, length-drop, length-append, get_or-take, get_or-drop, get_or_append_left, get_or-append_right, take-append-drop, length-take-le, ext_get_or, set_at, drop_more, take_more}
use Rattle.cells.specs.Layout.{over}

-- the same part of two lists that agree there
pub part_same : (m m' : List ℕ) (i n : ℕ) → length m' ≡ length m → ((k : ℕ) → k < n → get_or m' (i + k) 0 ≡ get_or m (i + k) 0) → take n (drop i m') ≡ take n (drop i m)
part_same m m' i n long same =
    ext_get_or 0 (take n (drop i m')) (take n (drop i m)) (simp (length-take, length-drop) (ap (λ z. min n (z - i)) long))
    (λ k h. (
    let lt : k < n = omega (arith, simp length-take at h) in
    get_or-take n (drop i m') k 0 lt ∙ get_or-drop i m' k 0 ∙ same k lt ∙ sym (get_or-drop i m k 0) ∙ sym (get_or-take n (drop i m) k 0 lt)))

pub get_or_part : (m : List ℕ) (i n k : ℕ) → k < n → get_or (take n (drop i m)) k 0 ≡ get_or m (i + k) 0
get_or_part m i n k h = get_or-take n (drop i m) k 0 h ∙ get_or-drop i m k 0

pub over_none : (m : List ℕ) (i : ℕ) → over m i [] ≡ m
unfolding over
over_none m i = let e : i + 0 ≡ i = omega arith in rw e (take-append-drop i m)

pub length_over : (m : List ℕ) (i : ℕ) (xs : List ℕ) → i + length xs ≤ length m → length (over m i xs) ≡ length m
unfolding over
length_over m i xs h = simp (length-append, length-take, length-drop) (omega arith)

pub get_or_over_below : (m : List ℕ) (i k : ℕ) (xs : List ℕ) → i ≤ length m → k < i → get_or (over m i xs) k 0 ≡ get_or m k 0
unfolding over
get_or_over_below m i k xs h lt =
    get_or_append_left (take i m) (xs ++ drop (i + length xs) m) 0 k (simp length-take (omega arith)) ∙ get_or-take i m k 0 lt

pub get_or_over : (m : List ℕ) (i k : ℕ) (xs : List ℕ) → i ≤ length m → k < length xs → get_or (over m i xs) (i + k) 0 ≡ get_or xs k 0
unfolding over
get_or_over m i k xs h lt =
    let e : i + k - i ≡ k = omega arith in
    get_or-append_right (take i m) (xs ++ drop (i + length xs) m) i (i + k) 0 (length-take-le i m h) (omega arith)
    ∙ ap (λ z. get_or (xs ++ drop (i + length xs) m) z 0) e
    ∙ get_or_append_left xs (drop (i + length xs) m) 0 k lt

pub get_or_over_past : (m : List ℕ) (i k : ℕ) (xs : List ℕ) → i ≤ length m → i + length xs ≤ k → get_or (over m i xs) k 0 ≡ get_or m k 0
unfolding over
get_or_over_past m i k xs h le =
    let e : i + length xs + (k - i - length xs) ≡ k = omega arith in
    get_or-append_right (take i m) (xs ++ drop (i + length xs) m) i k 0 (length-take-le i m h) (omega arith)
    ∙ get_or-append_right xs (drop (i + length xs) m) (length xs) (k - i) 0 refl (omega arith)
    ∙ get_or-drop (i + length xs) m (k - i - length xs) 0
    ∙ ap (λ z. get_or m z 0) e

-- one more of a list is written
pub over_more : (m : List ℕ) (i k : ℕ) (xs : List ℕ) → k < length xs → i + length xs ≤ length m → set (over m i (take k xs)) (i + k) (get_or xs k 0) ≡ over m i (take (k + 1) xs)
unfolding over
over_more m i k xs lt h =
    let y = get_or xs k 0 in
    let front = take i m ++ take k xs in
    let rest = drop (i + k + 1) m in
    let e : i + (k + 1) ≡ i + k + 1 = omega arith in
    let few : length (take k xs) ≡ k = length-take-le k xs (omega arith) in
    let more : length (take (k + 1) xs) ≡ k + 1 = length-take-le (k + 1) xs (omega arith) in
    let long : length front ≡ i + k = simp (length-append, length-take) (omega arith) in
    let before : over m i (take k xs) ≡ front ++ get_or m (i + k) 0 ∷ rest =
    ap (λ n. take i m ++ (take k xs ++ drop (i + n) m)) few
    ∙ ap (λ d. take i m ++ (take k xs ++ d)) (drop_more m (i + k) 0 (omega arith))
    ∙ sym (append_assoc (take i m) (take k xs) (get_or m (i + k) 0 ∷ rest)) in
    let after : over m i (take (k + 1) xs) ≡ front ++ y ∷ rest =
    ap (λ n. take i m ++ (take (k + 1) xs ++ drop (i + n) m)) more
    ∙ ap (λ n. take i m ++ (take (k + 1) xs ++ drop n m)) e
    ∙ ap (λ t. take i m ++ (t ++ rest)) (take_more xs k 0 lt)
    ∙ ap (λ t. take i m ++ t) (append_assoc (take k xs) (y ∷ []) rest)
    ∙ sym (append_assoc (take i m) (take k xs) (y ∷ rest)) in
    ap (λ r. set r (i + k) y) before ∙ set_at front (get_or m (i + k) 0) rest y (i + k) long ∙ sym after
