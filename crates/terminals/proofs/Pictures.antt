-- What an editor's screen shows can be drawn.
use Rattle.std.proofs.Common.{◌≡◌, ℕ, zero, suc, ◌+◌, ◌-◌, ◌/◌, ◌%◌, ◌<◌, ◌≤◌, true, cond, eqb, ltb, leb, List, [], ◌∷◌, ◌++◌, map, length, replicate, refl, ap, ◌∙◌, ⊎_elim, arith, length-append, length-take}
use lib.ListN.{length-replicate}
use Rattle.std.specs.List.{AllByRecursion}
use Rattle.std.proofs.ByRecursion.{All-append, All-take}
use Rattle.std.proofs.lemmas.Bool.{cases_lt, lt-ltb, le-ltb, le-leb, and_from, cond_both}
use Rattle.spec.specs.Bytes.{ascii, tab, is_printable}
use Rattle.spec.specs.Text.{line_count, line_of, column}
use Rattle.spec.specs.Editor.{Ed}
use Rattle.spec.specs.Screen.{Row, blank, shown, fitted, text_row, digits_before, decimal, status_row, text_rows, picture}
use Rattle.terminals.specs.Sequences.{Printable}
use Rattle.terminals.specs.Drawing.{PicturesDrawable}

abbrev Shown : ℕ → Type 0
Shown c = is_printable c ≡ true

printable_between : (c : ℕ) → 32 ≤ c → c ≤ 126 → Shown c
printable_between c h k = and_from (leb 32 c) (leb c 126) (le-leb 32 c h) (le-leb c 126 k)

printable_shown : (c : ℕ) → Shown (shown c)
printable_shown c =
    cond_both (eqb c tab) blank (cond (is_printable c) c (ascii "?")) Shown
    (λ _. refl)
    (λ _. cond_both (is_printable c) c (ascii "?") Shown (λ e. e) (λ _. refl))

printable_map : (cs : List ℕ) → Printable (map shown cs)
printable_map [] = tt
printable_map (c ∷ cs) = (printable_shown c, printable_map cs)

printable_blanks : (n : ℕ) → Printable (replicate n blank)
printable_blanks zero = tt
printable_blanks (suc n) = (refl, printable_blanks n)

printable_fitted : (n : ℕ) (cs : Row) → Printable cs → Printable (fitted n cs)
printable_fitted n cs p = All-take Shown n (cs ++ replicate n blank) (All-append Shown cs (replicate n blank) p (printable_blanks n))

length_fitted : (n : ℕ) (cs : Row) → length (fitted n cs) ≡ n
length_fitted n cs = rw (length-take, length-append, length-replicate) (omega arith)

printable_digits : (k n : ℕ) (cs : Row) → Printable cs → Printable (digits_before k n cs)
unfolding digits_before
printable_digits zero n cs p = p
printable_digits (suc k) n cs p =
    ⊎_elim
    (λ (h : n < 10). rw (lt-ltb n 10 h) (printable_between (48 + n) (omega arith) (omega arith), p))
    (λ (h : 10 ≤ n). rw (le-ltb n 10 h) (printable_digits k (n / 10) ((48 + n % 10) ∷ cs) (printable_between (48 + n % 10) (omega arith) (omega arith), p)))
    (cases_lt n 10)

printable_decimal : (n : ℕ) → Printable (decimal n)
unfolding decimal
printable_decimal n = printable_digits 20 n [] tt

width_text : (e : Ed) (l : ℕ) → length (text_row e l) ≡ e.view.columns
unfolding text_row
width_text e l =
    cond_both (ltb l (line_count e.text)) _ (fitted e.view.columns (ascii "~" ∷ [])) (λ (r : Row). length r ≡ e.view.columns)
    (λ _. length_fitted e.view.columns _)
    (λ _. length_fitted e.view.columns (ascii "~" ∷ []))

printable_text : (e : Ed) (l : ℕ) → Printable (text_row e l)
unfolding text_row
printable_text e l =
    cond_both (ltb l (line_count e.text)) _ (fitted e.view.columns (ascii "~" ∷ [])) Printable
    (λ _. printable_fitted e.view.columns _ (printable_map _))
    (λ _. printable_fitted e.view.columns (ascii "~" ∷ []) (refl, tt))

-- the status row before it is cut to the width
abbrev status : Ed → Row
status e = cond e.inserting (ascii "I") (ascii "N") ∷ blank ∷ (decimal (1 + line_of e.text e.cursor) ++ (ascii "," ∷ decimal (1 + column e.text e.cursor)))

width_status : (e : Ed) → length (status_row e) ≡ e.view.columns
unfolding status_row
width_status e = length_fitted e.view.columns (status e)

printable_status : (e : Ed) → Printable (status_row e)
unfolding status_row
printable_status e =
    printable_fitted e.view.columns (status e) (
      cond_both e.inserting (ascii "I") (ascii "N") Shown (λ _. refl) (λ _. refl),
      (refl, All-append Shown (decimal (1 + line_of e.text e.cursor)) (ascii "," ∷ decimal (1 + column e.text e.cursor)) (printable_decimal (1 + line_of e.text e.cursor)) (refl, printable_decimal (1 + column e.text e.cursor))),
    )

length_texts : (e : Ed) (n l : ℕ) → length (text_rows e n l) ≡ n
unfolding text_rows
length_texts e zero l = refl
length_texts e (suc n) l = ap suc (length_texts e n (suc l))

all_texts : (P : Row → Type 0) (e : Ed) → ((l : ℕ) → P (text_row e l)) → (n l : ℕ) → AllByRecursion P (text_rows e n l)
unfolding text_rows
all_texts P e p zero l = tt
all_texts P e p (suc n) l = (p l, all_texts P e p n (suc l))

pub picture_drawable : PicturesDrawable
unfolding picture
picture_drawable e s r9 c9 =
    let n : ℕ = e.view.rows - 1 in
    let texts : List Row = text_rows e n e.view.top in
    record {
      rectangle = record {
        height = length-append texts (status_row e ∷ []) ∙ rw (length_texts e n e.view.top) (omega (arith, s.above_status, s.below_top));
        width = All-append (λ (r : Row). length r ≡ e.view.columns) texts (status_row e ∷ []) (all_texts (λ (r : Row). length r ≡ e.view.columns) e (width_text e) n e.view.top) (width_status e, tt);
      };
      printable = All-append Printable texts (status_row e ∷ []) (all_texts Printable e (printable_text e) n e.view.top) (printable_status e, tt);
      row_within = omega (arith, s.above_status, s.below_top);
      column_within = omega (arith, s.within_width, s.right_of_left);
      few_rows = r9;
      few_columns = c9;
    }
