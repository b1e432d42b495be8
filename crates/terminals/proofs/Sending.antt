-- What was sent so far, row by row.
use Rattle.std.proofs.Common.{◌≡◌, ℕ, zero, suc, ◌+◌, ◌<◌, ◌≤◌, Bool, true, List, [], ◌∷◌, ◌++◌, length, get_or, take, set, sym, refl, ap, ◌∙◌, subst, arith, length-append, length-take}
use Rattle.std.proofs.lemmas.List.{append_assoc, append-nil, set-get_or, nil_from_length}
use Rattle.std.proofs.lemmas.Bool.{eq-eqb}
use Rattle.spec.specs.Screen.{Row, Picture}
use Rattle.spec.specs.Promises.{Draws, rows_cost, cost}
use Rattle.terminals.specs.Sequences.{Printable}
use Rattle.terminals.specs.Drawing.{showing, Rectangle, Drawable, step_bytes, Updates, update_bytes}
use Rattle.terminals.specs.Progress.{row_cost, mixed, pending_cost, all_pending, none_pending, RowSent, Sent, Drawn, RedrawDone}
use Rattle.terminals.proofs.Drawing.{draws_append, draws_none, draws_nothing}
use Rattle.terminals.proofs.Rows.{row_width, draws_step, turns_row}
use Rattle.terminals.proofs.Mixed.{Same, Without, mixed_same, mixed_all, mixed_none, mixed_at, mixed_set, mixed_rectangle, cost_all, cost_same, cost_without, same_cost, differs_cost}

-- a row that stays
pub row_stays : (first : List ℕ) (rows columns i : ℕ) (old new : Row) (r c : ℕ) → old ≡ new → RowSent first first rows columns i old new r c r c
row_stays first rows columns i old new r c e =
    record {
      bytes = [];
      appended = sym (append-nil first);
      turns = λ g q at. subst (λ (x : List Row). Draws (showing g r c) (showing x r c) []) (sym (set-get_or g i []) ∙ ap (set g i) (at ∙ e)) (draws_none (showing g r c));
      cheap = omega arith;
    }

-- a row that is updated
pub row_updated : (first moved last : List ℕ) (rows columns i a b : ℕ) (clear : Bool) (old new : Row) (r c : ℕ) → i < rows → rows ≤ 9999 → columns ≤ 9999 → length new ≡ columns → Printable new → Updates old new a b clear → (old ≡ new → ⊥) → moved ≡ first ++ step_bytes r c i a → last ≡ moved ++ update_bytes new a b clear → length last ≤ length first + (16 + columns) → RowSent first last rows columns i old new r c i b
row_updated first moved last rows columns i a b clear old new r c h r9 c9 width ink u d m w l =
    let e : last ≡ first ++ (step_bytes r c i a ++ update_bytes new a b clear) = w ∙ ap (λ (x : List ℕ). x ++ update_bytes new a b clear) m ∙ append_assoc first (step_bytes r c i a) (update_bytes new a b clear) in
    record {
      bytes = step_bytes r c i a ++ update_bytes new a b clear;
      appended = e;
      turns = turns_row rows columns i a b clear old new r c h r9 c9 width ink u;
      cheap = rw (differs_cost columns old new d) (omega (arith, ap length e, length-append first (step_bytes r c i a ++ update_bytes new a b clear)));
    }

-- nothing yet
pub sent_none : (first : List ℕ) (columns : ℕ) (before after : Picture) → length before.rows ≡ length after.rows → Sent first first columns before after all_pending before.cursor_row before.cursor_column
sent_none first columns before after l =
    record {
      bytes = [];
      appended = sym (append-nil first);
      draws = rw (mixed_all all_pending before.rows after.rows l (λ k h. refl)) (draws_none before);
      cheap = omega (arith, cost_all columns all_pending before.rows after.rows (λ k h. refl));
    }

-- the same rows pending
pub sent_same : (first last : List ℕ) (columns : ℕ) (before after : Picture) (p q : ℕ → Bool) (r c : ℕ) → Same p q (length before.rows) → Sent first last columns before after p r c → Sent first last columns before after q r c
sent_same first last columns before after p q r c e s =
    record {
      bytes = s.bytes;
      appended = s.appended;
      draws = rw (← mixed_same p q before.rows after.rows e) s.draws;
      cheap = omega (arith, s.cheap, cost_same columns p q before.rows after.rows e);
    }

-- one more row
pub sent_row : (first mid last : List ℕ) (rows columns : ℕ) (before after : Picture) (p q : ℕ → Bool) (i r c r' c' : ℕ) → Rectangle rows columns before.rows → Rectangle rows columns after.rows → i < rows → p i ≡ true → Without p q i (length before.rows) → Sent first mid columns before after p r c → RowSent mid last rows columns i (get_or before.rows i []) (get_or after.rows i []) r c r' c' → Sent first last columns before after q r' c'
sent_row first mid last rows columns before after p q i r c r' c' a b h t w s n =
    let us : List Row = before.rows in
    let vs : List Row = after.rows in
    let l : length us ≡ length vs = a.height ∙ sym b.height in
    let k : i < length us = omega (arith, a.height) in
    let d : Draws (showing (mixed p us vs) r c) (showing (mixed q us vs) r' c') n.bytes = subst (λ (x : List Row). Draws (showing (mixed p us vs) r c) (showing x r' c') n.bytes) (mixed_set p q us vs i l k w) (n.turns (mixed p us vs) (mixed_rectangle rows columns p us vs a b) (mixed_at p us vs i l k t)) in
    record {
      bytes = s.bytes ++ n.bytes;
      appended = n.appended ∙ ap (λ (x : List ℕ). x ++ n.bytes) s.appended ∙ append_assoc first s.bytes n.bytes;
      draws = draws_append before (showing (mixed p us vs) r c) (showing (mixed q us vs) r' c') s.bytes n.bytes s.draws d;
      cheap = omega (arith, s.cheap, n.cheap, length-append s.bytes n.bytes, cost_without columns p q us vs i l k t w);
    }

-- too little room for a row, and for the last move
pub row_refused : (first mid : List ℕ) (rows columns : ℕ) (before after : Picture) (p q : ℕ → Bool) (i r c capacity : ℕ) → Rectangle rows columns before.rows → Rectangle rows columns after.rows → i < rows → p i ≡ true → Without p q i (length before.rows) → Sent first mid columns before after p r c → capacity < length mid + row_cost columns (get_or before.rows i []) (get_or after.rows i []) → capacity < length first + cost columns before after
row_refused first mid rows columns before after p q i r c capacity a b h t w s o =
    let l : length before.rows ≡ length after.rows = a.height ∙ sym b.height in
    let k : i < length before.rows = omega (arith, a.height) in
    omega (arith, s.cheap, ap length s.appended, length-append first s.bytes, cost_without columns p q before.rows after.rows i l k t w)

pub move_refused : (first mid : List ℕ) (columns : ℕ) (before after : Picture) (p : ℕ → Bool) (r c capacity : ℕ) → Sent first mid columns before after p r c → capacity < length mid + 12 → capacity < length first + cost columns before after
move_refused first mid columns before after p r c capacity s o = omega (arith, s.cheap, ap length s.appended, length-append first s.bytes)

-- the cursor at last
step_none : (r c r' c' : ℕ) → r ≡ r' → c ≡ c' → step_bytes r c r' c' ≡ []
step_none r c r' c' a b = rw (eq-eqb r r' a, eq-eqb c c' b)

-- equal pictures: nothing was sent, and the cursor is where it was
sent_quiet : (columns : ℕ) (before after : Picture) (p : ℕ → Bool) (r c : ℕ) (bs : List ℕ) → before ≡ after → Draws before (showing (mixed p before.rows after.rows) r c) bs → length bs + pending_cost columns p before.rows after.rows ≤ rows_cost columns before.rows after.rows → (bs ≡ []) × (r ≡ after.cursor_row) × (c ≡ after.cursor_column)
sent_quiet columns before after p r c bs e d k =
    let z : rows_cost columns before.rows after.rows ≡ 0 = ap (λ (x : Picture). rows_cost columns before.rows x.rows) (sym e) ∙ same_cost columns before.rows in
    let n : bs ≡ [] = nil_from_length bs (omega arith) in
    let same : before ≡ showing (mixed p before.rows after.rows) r c = (draws_nothing before (showing (mixed p before.rows after.rows) r c)).0 (rw n at d) in
    (n, ap (λ (x : Picture). x.cursor_row) (sym same ∙ e), ap (λ (x : Picture). x.cursor_column) (sym same ∙ e))

pub drawn : (first mid last : List ℕ) (rows columns : ℕ) (before after : Picture) (r c : ℕ) → Rectangle rows columns before.rows → Drawable rows columns after → Sent first mid columns before after none_pending r c → last ≡ mid ++ step_bytes r c after.cursor_row after.cursor_column → length last ≤ length mid + 12 → Drawn first last columns before after
drawn first mid last rows columns before after r c a b s w l =
    let vs : List Row = after.rows in
    let step : List ℕ = step_bytes r c after.cursor_row after.cursor_column in
    let ln : length before.rows ≡ length vs = a.height ∙ sym b.rectangle.height in
    let d : Draws before (showing vs r c) s.bytes = rw (mixed_none none_pending before.rows vs ln (λ k h. refl)) at s.draws in
    let w0 : length (get_or vs 0 []) ≡ columns = row_width rows columns 0 vs b.rectangle (omega (arith, b.row_within)) in
    let m : Draws (showing vs r c) after step = draws_step vs r c after.cursor_row after.cursor_column (omega (arith, b.few_rows, b.row_within)) (omega (arith, b.few_columns, b.column_within)) (omega (arith, b.row_within, b.rectangle.height)) (omega (arith, b.column_within)) in
    let e : last ≡ first ++ (s.bytes ++ step) = w ∙ ap (λ (x : List ℕ). x ++ step) s.appended ∙ append_assoc first s.bytes step in
    record {
      bytes = s.bytes ++ step;
      appended = e;
      draws = draws_append before (showing vs r c) after s.bytes step d m;
      cheap = omega (arith, s.cheap, ap length e, ap length s.appended, length-append first s.bytes, length-append first (s.bytes ++ step));
      quiet = λ x. let q = sent_quiet columns before after none_pending r c s.bytes x s.draws s.cheap in rw (q.0, step_none r c after.cursor_row after.cursor_column q.1 q.2);
    }

-- at the front of what was lent
pub take_of_length : {A : Type 0} (m : ℕ) (xs : List A) → take (length (take m xs)) xs ≡ take m xs
take_of_length zero xs = refl
take_of_length {A} (suc m) [] = refl
take_of_length {A} (suc m) (x ∷ xs) = ap (λ (l : List A). x ∷ l) (take_of_length m xs)

pub drawn_front : (lent bs : List ℕ) (m n o columns : ℕ) (before after : Picture) → lent ≡ bs → Drawn [] (take m bs) columns before after → n ≡ length (take m bs) → length bs ≡ o → RedrawDone before after columns o lent n
drawn_front lent bs m n o columns before after z d e f =
    let a : take n lent ≡ d.bytes = ap (take n) z ∙ ap (λ (k : ℕ). take k bs) e ∙ take_of_length m bs ∙ d.appended in
    let l : n ≡ length d.bytes = e ∙ ap length d.appended in
    record {
      draws = subst (λ (x : List ℕ). Draws before after x) (sym a) d.draws;
      fits = omega (arith, length-take m bs);
      cheap = omega (arith, d.cheap);
      quiet = λ x. l ∙ ap length (d.quiet x);
    }
