-- Rows cut from cells.
use Rattle.std.proofs.Common.{Ok, Err, Option, Some, None, Result, IfOk, ◌≡◌, ℕ, zero, suc, ◌+◌, ◌*◌, ◌<◌, ◌≤◌, Bool, true, ◌&&◌, List, [], ◌∷◌, length, get_or, take, drop, sym, refl, ap, ◌∙◌, subst, mul-le-mul_right, add-mul, one-mul, zero-mul, add-one, arith, length-drop}
use Rattle.std.specs.List.{AllByRecursion, list_all}
use Rattle.std.specs.Option.{ok_or}
use Rattle.std.proofs.lemmas.List.{drop-drop, length-take-le}
use Rattle.std.proofs.ByRecursion.{All-get_or, All-take, All-drop}
use Rattle.std.proofs.lemmas.Bool.{and_parts}
use Rattle.spec.specs.Bytes.{is_printable}
use Rattle.spec.specs.Screen.{Row, Picture}
use Rattle.spec.specs.Promises.{paint_cost}
use Rattle.terminals.specs.Sequences.{Printable}
use Rattle.terminals.specs.Drawing.{Rectangle, Drawable}
use Rattle.terminals.specs.Painting.{RepaintDone, RepaintSays}
use Rattle.pictures.specs.Rows.{rows_of, picture_of, all_printable, Valid}

-- one row and the rest
pub row_and_rest : (n k : ℕ) → suc n * k ≡ k + n * k
row_and_rest n k = ap (λ (x : ℕ). x * k) (sym (add-one n)) ∙ add-mul n 1 k ∙ ap (λ (x : ℕ). n * k + x) (one-mul k) ∙ (omega arith)

pub height_of : (n columns : ℕ) (cells : List ℕ) → length (rows_of n columns cells) ≡ n
unfolding rows_of
height_of zero columns cells = refl
height_of (suc n) columns cells = ap suc (height_of n columns (drop columns cells))

pub width_of : (n columns : ℕ) (cells : List ℕ) → length cells ≡ n * columns → AllByRecursion (λ (r : Row). length r ≡ columns) (rows_of n columns cells)
unfolding rows_of
width_of zero columns cells h = tt
width_of (suc n) columns cells h =
    let e = row_and_rest n columns in
    (length-take-le columns cells (omega arith), width_of n columns (drop columns cells) (rw length-drop (omega arith)))

pub printable_of : (n columns : ℕ) (cells : List ℕ) → Printable cells → AllByRecursion Printable (rows_of n columns cells)
unfolding rows_of
printable_of zero columns cells h = tt
printable_of (suc n) columns cells h = (All-take (λ (c : ℕ). is_printable c ≡ true) columns cells h, printable_of n columns (drop columns cells) (All-drop (λ (c : ℕ). is_printable c ≡ true) columns cells h))

pub row_of : (n columns : ℕ) (cells : List ℕ) (i : ℕ) → i < n → get_or (rows_of n columns cells) i [] ≡ take columns (drop (i * columns) cells)
unfolding rows_of
row_of zero columns cells i h = absurd (omega arith)
row_of (suc n) columns cells zero h = rw (zero-mul columns)
row_of (suc n) columns cells (suc i) h = row_of n columns (drop columns cells) i (omega arith) ∙ ap (take columns) (drop-drop (i * columns) columns cells ∙ ap (λ (k : ℕ). drop k cells) (sym (row_and_rest i columns)))

pub rectangle_of : (rows columns : ℕ) (cells : List ℕ) → length cells ≡ rows * columns → Rectangle rows columns (rows_of rows columns cells)
rectangle_of rows columns cells h = record { height = height_of rows columns cells; width = width_of rows columns cells h }

pub drawable_of : (rows columns : ℕ) (cells : List ℕ) (r c : ℕ) → length cells ≡ rows * columns → Printable cells → r < rows → c < columns → rows ≤ 9999 → columns ≤ 9999 → Drawable rows columns (picture_of rows columns cells r c)
drawable_of rows columns cells r c h p a b x y = record { rectangle = rectangle_of rows columns cells h; printable = printable_of rows columns cells p; row_within = a; column_within = b; few_rows = x; few_columns = y }

pub printable_cells : (cells : List ℕ) → all_printable cells ≡ true → Printable cells
printable_cells [] h = tt
printable_cells (c ∷ cs) h = let p = and_parts (is_printable c) (all_printable cs) h in (p.0, printable_cells cs p.1)

-- the library's test of a whole list
pub printable_is : (cells : List ℕ) → list_all is_printable cells ≡ all_printable cells
printable_is [] = refl
printable_is (c ∷ cs) = ap (λ (b : Bool). is_printable c && b) (printable_is cs)

-- what copying a row asks for
pub row_within : (rows columns : ℕ) (cells : List ℕ) (i : ℕ) → length cells ≡ rows * columns → i < length (rows_of rows columns cells) → (i + 1) * columns ≤ length cells
row_within rows columns cells i h k =
    let r : i < rows = omega (arith, height_of rows columns cells) in
    omega (arith, mul-le-mul_right {m = i + 1} {n = rows} columns (omega arith))

pub row_wide : (rows columns : ℕ) (cells : List ℕ) (i n : ℕ) → length cells ≡ rows * columns → i < length (rows_of rows columns cells) → length (get_or (rows_of rows columns cells) i []) ≡ n → n ≡ columns
row_wide rows columns cells i n h k e = sym e ∙ All-get_or (λ (r : Row). length r ≡ columns) (rows_of rows columns cells) i [] k (width_of rows columns cells h)

pub row_copied : (rows columns : ℕ) (cells : List ℕ) (i : ℕ) (into : List ℕ) → i < length (rows_of rows columns cells) → into ≡ take columns (drop (i * columns) cells) → into ≡ get_or (rows_of rows columns cells) i []
row_copied rows columns cells i into k e = e ∙ sym (row_of rows columns cells i (omega (arith, height_of rows columns cells)))

pub valid_drawable : {rows columns : ℕ} {cells : List ℕ} {r c : ℕ} → Valid rows columns cells r c → Drawable rows columns (picture_of rows columns cells r c)
valid_drawable {rows} {columns} {cells} {r} {c} v = drawable_of rows columns cells r c v.filled (printable_cells cells v.printable) v.row_within v.column_within v.few_rows v.few_columns

-- the same with the size as a drawing measures it
pub valid_measured : (rows columns n : ℕ) (cells other : List ℕ) (r c : ℕ) → columns ≡ n → Valid rows columns cells r c → Drawable (length (rows_of rows columns other)) n (picture_of rows columns cells r c)
valid_measured rows columns n cells other r c e v = subst (λ (k : ℕ). Drawable k n (picture_of rows columns cells r c)) (sym (height_of rows columns other)) (subst (λ (k : ℕ). Drawable rows k (picture_of rows columns cells r c)) e (valid_drawable v))

pub repaint_measured : (rows columns n : ℕ) (other : List ℕ) (after : Picture) (o : ℕ) (bs : List ℕ) (k : ℕ) → n ≡ columns → RepaintDone (length (rows_of rows columns other)) n after o bs k → RepaintDone rows columns after o bs k
repaint_measured rows columns n other after o bs k e d = subst (λ (x : ℕ). RepaintDone x columns after o bs k) (height_of rows columns other) (subst (λ (x : ℕ). RepaintDone (length (rows_of rows columns other)) x after o bs k) e d)

pub repaint_ok : {E : Type 0} (rows columns n : ℕ) (other : List ℕ) (after : Picture) (o : ℕ) (bs : List ℕ) (e : E) (r : Option ℕ) (q : Result ℕ E) → q ≡ ok_or r e → n ≡ columns → RepaintSays (length (rows_of rows columns other)) n after o bs r → IfOk q (λ k. RepaintDone rows columns after o bs k)
repaint_ok rows columns n other after o bs e (Some k) q h w d = rw h (repaint_measured rows columns n other after o bs k w d)
repaint_ok rows columns n other after o bs e None q h w d = rw h tt

pub repaint_refused : {E : Type 0} (rows columns n : ℕ) (other : List ℕ) (after : Picture) (o : ℕ) (bs : List ℕ) (e : E) (r : Option ℕ) (q : Result ℕ E) → q ≡ ok_or r e → n ≡ columns → RepaintSays (length (rows_of rows columns other)) n after o bs r → q ≡ Err e → o < paint_cost rows columns
repaint_refused rows columns n other after o bs e (Some k) q h w d z = let y : Ok k ≡ Err e = sym h ∙ z in absurd (cc)
repaint_refused rows columns n other after o bs e None q h w d z = subst (λ (x : ℕ). o < paint_cost x columns) (height_of rows columns other) (subst (λ (x : ℕ). o < paint_cost (length (rows_of rows columns other)) x) w d)
