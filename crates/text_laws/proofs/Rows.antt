-- A row of the screen from the bytes of a range.
use Rattle.std.proofs.Common.{◌≡◌, ℕ, suc, ◌+◌, ◌-◌, ◌<◌, ◌≤◌, min, ltb, List, [], ◌∷◌, ◌++◌, map, length, take, drop, replicate, refl, ap, ◌∙◌, ⊎_elim, arith, length-drop, length-take, take-take}
use lib.Seq.{take-append-add}
use Rattle.std.proofs.lemmas.List.{length-map, drop_all, drop-drop, drop-take, take_all, take-replicate}
use Rattle.std.proofs.lemmas.Bool.{cases_lt, cond-true, cond-false, lt-ltb, le-ltb}
use Rattle.laws.proofs.TextLines.{line_end_within, nth_line_within}
use Rattle.spec.specs.Bytes.{ascii}
use Rattle.spec.specs.Text.{Text, part, line_end, newlines, line_count, nth_line}
use Rattle.spec.specs.Editor.{Ed}
use Rattle.spec.specs.Screen.{Row, blank, shown, fitted, text_row}

drop_of_take : (n m : ℕ) (xs : List ℕ) → drop n (take m xs) ≡ take (m - n) (drop n xs)
drop_of_take n m xs =
    ⊎_elim (λ (h : n < m). let s : m ≡ n + (m - n) = omega arith in ap (λ k. drop n (take k xs)) s ∙ drop-take n (m - n) xs) (λ (h : m ≤ n). let s : m - n ≡ 0 = omega arith in drop_all n (take m xs) (omega (arith, length-take m xs)) ∙ rw s refl) (cases_lt n m)

take_of_take : (n m : ℕ) (xs : List ℕ) → take n (take m xs) ≡ take (min n m) xs
take_of_take n m xs =
    ⊎_elim (λ (h : n < m). let s : min n m ≡ n = omega arith in rw s (take-take n m xs (omega arith))) (λ (h : m ≤ n). let s : min n m ≡ m = omega arith in rw s (take_all n (take m xs) (omega (arith, length-take m xs)))) (cases_lt n m)

-- a row that is not too long
pub fitted_is : (n : ℕ) (ys : Row) → length ys ≤ n → fitted n ys ≡ ys ++ replicate (n - length ys) blank
fitted_is n ys h =
    let s : n ≡ length ys + (n - length ys) = omega arith in
    ap (λ k. take k (ys ++ replicate n blank)) s ∙ take-append-add ys (replicate n blank) (n - length ys) ∙ ap (λ zs. ys ++ zs) (take-replicate (n - length ys) n blank (omega arith))

-- from column c on, n columns of the bytes from a up to e
pub columns_are : (t : Text) (a e n c : ℕ) → take n (drop c (part t a e)) ≡ take (min n (e - (a + c))) (drop (a + c) t)
columns_are t a e n c =
    let s : e - a - c ≡ e - (a + c) = omega arith in
    ap (take n) (drop_of_take c (e - a) (drop a t)) ∙ take_of_take n (e - a - c) (drop c (drop a t)) ∙ rw (drop-drop c a t, s)

-- from the place of that column, or the end
columns_from : (t : Text) (a e n c f k : ℕ) → f ≡ min (a + c) e → k ≡ min n (e - f) → take (min n (e - (a + c))) (drop (a + c) t) ≡ take k (drop f t)
columns_from t a e n c f k p q =
    ⊎_elim (λ (h : a + c < e). let s : f ≡ a + c = omega arith in let r : min n (e - (a + c)) ≡ k = omega arith in rw (r, s)) (λ (h : e ≤ a + c). let r : min n (e - (a + c)) ≡ 0 = omega arith in let s : k ≡ 0 = omega arith in rw (r, s)) (cases_lt (a + c) e)

pub columns_shown : (t : Text) (a e n c f k : ℕ) → e ≤ length t → f ≡ min (a + c) e → k ≡ min n (e - f) → fitted n (map shown (take n (drop c (part t a e)))) ≡ map shown (take k (drop f t)) ++ replicate (n - k) blank
columns_shown t a e n c f k h p q =
    let l : length (take k (drop f t)) ≡ k = omega (arith, length-take k (drop f t), length-drop f t) in
    let m : length (map shown (take k (drop f t))) ≡ k = length-map (take k (drop f t)) shown ∙ l in
    ap (λ xs. fitted n (map shown xs)) (columns_are t a e n c ∙ columns_from t a e n c f k p q) ∙ (fitted_is n (map shown (take k (drop f t))) (omega arith) ∙ rw m)

-- A row of the text, and one behind it.

pub row_in_text : (e : Ed) (l f k : ℕ) → l ≤ newlines e.text → f ≡ min (nth_line e.text l + e.view.left) (line_end e.text (nth_line e.text l)) → k ≡ min e.view.columns (line_end e.text (nth_line e.text l) - f) → text_row e l ≡ map shown (take k (drop f e.text)) ++ replicate (e.view.columns - k) blank
unfolding text_row line_count
row_in_text e l f k h p q =
    cond-true (ltb l (suc (newlines e.text))) _ _ (lt-ltb l (suc (newlines e.text)) (omega arith)) ∙ columns_shown e.text (nth_line e.text l) (line_end e.text (nth_line e.text l)) e.view.columns e.view.left f k (line_end_within e.text _ (nth_line_within e.text l)) p q

pub row_behind_text : (e : Ed) (l : ℕ) → newlines e.text < l → 1 ≤ e.view.columns → text_row e l ≡ ascii "~" ∷ replicate (e.view.columns - 1) blank
unfolding text_row line_count
row_behind_text e l h c =
    cond-false (ltb l (suc (newlines e.text))) _ _ (le-ltb l (suc (newlines e.text)) (omega arith)) ∙ fitted_is e.view.columns (ascii "~" ∷ []) c
