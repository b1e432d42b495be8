-- Slices, replacements and repeats: their bytes, and that they are ropes.
use Rattle.std.proofs.Common.{◌≡◌, ℕ, zero, suc, ◌+◌, ◌*◌, ◌/◌, ◌%◌, ◌^◌, ◌<◌, ◌≤◌, max, eqb, ◌≢◌, List, [], ◌++◌, take, drop, sym, refl, ap, ◌∙◌, append_assoc, append-nil, pow-suc, arith}
use Rattle.std.proofs.lemmas.Bool.{eqb-true, eqb-false, cond_both}
use Rattle.std.proofs.lemmas.List.{take-take}
use Rattle.std.proofs.lemmas.Slice.{between_is}
use Rattle.spec.specs.Text.{part, replaced, copies}
use Rattle.ropes.specs.Rope.{Rope, bytes, height, Whole}
use Rattle.ropes.specs.Join.{concat}
use Rattle.ropes.specs.Cut.{front, back, slice, replace, repeat_onto}
use Rattle.ropes.proofs.Joins.{bytes_concat, concat_ok}
use Rattle.ropes.proofs.Cuts.{Part, bytes_front, bytes_back, front_ok, back_ok}

pub bytes_slice : (t : Rope) (a b : ℕ) → bytes (slice t a b) ≡ part (bytes t) a b
unfolding slice
bytes_slice t a b = bytes_back (front t b) a ∙ (ap (drop a) (bytes_front t b) ∙ sym (between_is (bytes t) a b))

pub slice_ok : (t : Rope) (a b : ℕ) → Whole t → Part (slice t a b) (height t)
unfolding slice
slice_ok t a b w =
    let f = front_ok t b w in
    let s = back_ok (front t b) a f.whole in
    record { whole = s.whole; high = omega (arith, f.high, s.high) }

pub bytes_replace : (t : Rope) (a b : ℕ) (new : Rope) → a ≤ b → bytes (replace t a b new) ≡ replaced (bytes t) a b (bytes new)
unfolding replace
bytes_replace t a b new h =
    let xs = bytes t in
    let start : bytes (front (front t b) a) ≡ take a xs = bytes_front (front t b) a ∙ (ap (take a) (bytes_front t b) ∙ take-take a b xs h) in
    bytes_concat (concat (front (front t b) a) new) (back t b)
    ∙ (ap (λ z. z ++ bytes (back t b)) (bytes_concat (front (front t b) a) new)
    ∙ (ap (λ z. (z ++ bytes new) ++ bytes (back t b)) start
    ∙ (ap (λ z. (take a xs ++ bytes new) ++ z) (bytes_back t b) ∙ append_assoc (take a xs) (bytes new) (drop b xs))))

pub replace_ok : (t : Rope) (a b : ℕ) (new : Rope) → Whole t → Whole new → Part (replace t a b new) (max (height t) (height new) + 2)
unfolding replace
replace_ok t a b new w wn =
    let f = front_ok t b w in
    let g = front_ok (front t b) a f.whole in
    let k = back_ok t b w in
    let c = concat_ok (front (front t b) a) new g.whole wn in
    let d = concat_ok (concat (front (front t b) a) new) (back t b) c.whole k.whole in
    record { whole = d.whole; high = omega (arith, f.high, g.high, k.high, c.high, d.high) }

pub copies_twice : (n : ℕ) (xs : List ℕ) → copies n (xs ++ xs) ≡ copies (2 * n) xs
unfolding copies
copies_twice zero xs = refl
copies_twice (suc n) xs =
    let e : 2 * suc n ≡ suc (suc (2 * n)) = omega arith in
    rw e (append_assoc xs xs (copies n (xs ++ xs)) ∙ ap (λ z. xs ++ (xs ++ z)) (copies_twice n xs))

copies_even : (n : ℕ) (xs : List ℕ) → n % 2 ≡ 0 → copies (n / 2) (xs ++ xs) ≡ copies n xs
copies_even n xs e = let k : 2 * (n / 2) ≡ n = omega arith in copies_twice (n / 2) xs ∙ ap (λ z. copies z xs) k

copies_odd : (n : ℕ) (xs : List ℕ) → (n % 2 ≡ 0 → ⊥) → xs ++ copies (n / 2) (xs ++ xs) ≡ copies n xs
unfolding copies
copies_odd n xs e =
    let k : suc (2 * (n / 2)) ≡ n = omega arith in
    ap (λ z. xs ++ z) (copies_twice (n / 2) xs) ∙ ap (λ z. copies z xs) k

copies_none : (n : ℕ) (xs : List ℕ) → n ≡ 0 → copies n xs ≡ []
unfolding copies
copies_none n xs e = ap (λ z. copies z xs) e

copies_one : (n : ℕ) (xs : List ℕ) → n ≡ 1 → copies n xs ≡ xs
unfolding copies
copies_one n xs e = ap (λ z. copies z xs) e ∙ append-nil xs

halved : (n k : ℕ) → n < 2 ^ suc k → n / 2 < 2 ^ k
halved n k h = let e : 2 ^ suc k ≡ 2 ^ k * 2 = pow-suc 2 k in omega arith

pub bytes_repeat : (steps : ℕ) (before t : Rope) (n : ℕ) → n < 2 ^ steps → bytes (repeat_onto steps before t n) ≡ bytes before ++ copies n (bytes t)
unfolding repeat_onto
bytes_repeat zero before t n h =
    let e : n ≡ 0 = omega arith in
    sym (append-nil (bytes before)) ∙ ap (λ z. bytes before ++ z) (sym (copies_none n (bytes t) e))
bytes_repeat (suc steps) before t n h =
    let P : Rope → Type 0 = λ z. bytes z ≡ bytes before ++ copies n (bytes t) in
    let xs = bytes t in
    let rest = copies (n / 2) (xs ++ xs) in
    let half : n / 2 < 2 ^ steps = halved n steps h in
    let more : (b : Rope) → bytes b ++ rest ≡ bytes before ++ copies n xs → bytes (repeat_onto steps b (concat t t) (n / 2)) ≡ bytes before ++ copies n xs
    = λ b e. bytes_repeat steps b (concat t t) (n / 2) half ∙ (ap (λ z. bytes b ++ copies (n / 2) z) (bytes_concat t t) ∙ e) in
    cond_both (eqb n 0) _ _ P
    (λ e. sym (append-nil (bytes before)) ∙ ap (λ z. bytes before ++ z) (sym (copies_none n xs (eqb-true _ _ e))))
    (λ e. let some : n ≢ 0 = eqb-false _ _ e in
    cond_both (eqb (n / 2) 0) _ _ P
    (λ f. let k : n / 2 ≡ 0 = eqb-true _ _ f in
    bytes_concat before t ∙ ap (λ z. bytes before ++ z) (sym (copies_one n xs (omega arith))))
    (λ _. more _
    (cond_both (eqb (n % 2) 0) before (concat before t) (λ b. bytes b ++ rest ≡ bytes before ++ copies n xs)
    (λ f. ap (λ z. bytes before ++ z) (copies_even n xs (eqb-true _ _ f)))
    (λ f. ap (λ z. z ++ rest) (bytes_concat before t) ∙ (append_assoc (bytes before) xs rest ∙ ap (λ z. bytes before ++ z) (copies_odd n xs (eqb-false _ _ f)))))))

pub repeat_whole : (steps : ℕ) (before t : Rope) (n : ℕ) → Whole before → Whole t → Whole (repeat_onto steps before t n)
unfolding repeat_onto
repeat_whole zero before t n wb wt = wb
repeat_whole (suc steps) before t n wb wt =
    let more = (concat_ok before t wb wt).whole in
    cond_both (eqb n 0) _ _ Whole (λ _. wb)
    (λ _. cond_both (eqb (n / 2) 0) _ _ Whole (λ _. more)
    (λ _. repeat_whole steps _ (concat t t) (n / 2) (cond_both (eqb (n % 2) 0) _ _ Whole (λ _. wb) (λ _. more)) (concat_ok t t wt wt).whole))
