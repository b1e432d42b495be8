-- Row after row on a terminal of which only the size is known.
use Rattle.std.proofs.Common.{◌≡◌, ℕ, ◌+◌, ◌*◌, ◌<◌, ◌≤◌, Bool, List, [], ◌∷◌, ◌++◌, length, get_or, take, set, sym, ap, ◌∙◌, subst, mul-le-mul_right, add-mul, one-mul, arith, length-take}
use Rattle.std.proofs.lemmas.List.{append_assoc}
use Rattle.std.proofs.lemmas.Bool.Decides.{nat_tests}
use Rattle.spec.specs.Bytes.{cancel_sequence}
use Rattle.spec.specs.Screen.{Row, Picture}
use Rattle.spec.specs.Terminal.{Terminal, feed}
use Rattle.spec.specs.Promises.{Shows, Draws, Sized, Paints, paint_cost}
use Rattle.terminals.specs.Sequences.{Printable, move_bytes}
use Rattle.terminals.specs.Drawing.{showing, Rectangle, Drawable, step_bytes, Updates, update_bytes}
use Rattle.terminals.specs.Progress.{mixed}
use Rattle.terminals.specs.Painting.{from_row, RowPainted, PaintSent, Painted, RepaintDone}
use Rattle.terminals.proofs.Feeds.{resting, feed_append, feed_cancel}
use Rattle.terminals.proofs.Drawing.{draws_move, shows_itself}
use Rattle.terminals.proofs.Rows.{row_width, draws_step, turns_row}
use Rattle.terminals.proofs.Mixed.{mixed_all, mixed_none, mixed_at, mixed_set, mixed_rectangle}
use Rattle.terminals.proofs.Sending.{take_of_length}

sized_rectangle : {t : Terminal} {rows columns : ℕ} → Sized t rows columns → Rectangle rows columns t.grid
sized_rectangle s = record { height = s.height; width = s.width }

-- a row written over any other
pub row_painted : (first moved last : List ℕ) (rows columns i b : ℕ) (clear : Bool) (new : Row) (r c : ℕ) → i < rows → rows ≤ 9999 → columns ≤ 9999 → length new ≡ columns → Printable new → ((old : Row) → length old ≡ length new → Updates old new 0 b clear) → moved ≡ first ++ step_bytes r c i 0 → last ≡ moved ++ update_bytes new 0 b clear → RowPainted first last rows columns i new r c i b
row_painted first moved last rows columns i b clear new r c h r9 c9 width ink u m w =
    record {
      bytes = step_bytes r c i 0 ++ update_bytes new 0 b clear;
      appended = w ∙ ap (λ (x : List ℕ). x ++ update_bytes new 0 b clear) m ∙ append_assoc first (step_bytes r c i 0) (update_bytes new 0 b clear);
      turns = λ old l. turns_row rows columns i 0 b clear old new r c h r9 c9 width ink (u old (l ∙ sym width));
    }

-- the beginning: a sequence is ended, and the cursor is at home
pub paint_begun : (first last : List ℕ) (rows columns : ℕ) (after : Picture) → Drawable rows columns after → last ≡ first ++ (cancel_sequence ∷ move_bytes 0 0) → PaintSent first last rows columns after (from_row 0) 0 0
paint_begun first last rows columns after d w =
    record {
      bytes = cancel_sequence ∷ move_bytes 0 0;
      appended = w;
      leads = λ t s. home t s;
    }
  where
    home : (t : Terminal) → Sized t rows columns → Shows (feed t (cancel_sequence ∷ move_bytes 0 0)) (showing (mixed (from_row 0) t.grid after.rows) 0 0)
    home t s =
        let a : length t.grid ≡ length after.rows = s.height ∙ sym d.rectangle.height in
        let g : mixed (from_row 0) t.grid after.rows ≡ t.grid = mixed_all (from_row 0) t.grid after.rows a (λ k h. grind (arith, nat_tests)) in
        let w : length (get_or t.grid 0 []) ≡ columns = row_width rows columns 0 t.grid (sized_rectangle s) (omega (arith, d.row_within)) in
        let m = draws_move t.grid t.row t.column 0 0 (omega arith) (omega arith) (omega (arith, s.height, d.row_within)) (omega (arith, d.column_within)) in
        rw (g, feed_cancel t (move_bytes 0 0)) (m (resting t.grid t.row t.column) (shows_itself (showing t.grid t.row t.column)))

-- one more row
pub paint_row : (first mid last : List ℕ) (rows columns : ℕ) (after : Picture) (i r c r' c' : ℕ) → Rectangle rows columns after.rows → i < rows → PaintSent first mid rows columns after (from_row i) r c → RowPainted mid last rows columns i (get_or after.rows i []) r c r' c' → PaintSent first last rows columns after (from_row (i + 1)) r' c'
paint_row first mid last rows columns after i r c r' c' b h s n =
    record {
      bytes = s.bytes ++ n.bytes;
      appended = n.appended ∙ ap (λ (x : List ℕ). x ++ n.bytes) s.appended ∙ append_assoc first s.bytes n.bytes;
      leads = λ t z. more t z;
    }
  where
    more : (t : Terminal) → Sized t rows columns → Shows (feed t (s.bytes ++ n.bytes)) (showing (mixed (from_row (i + 1)) t.grid after.rows) r' c')
    more t z =
        let us : List Row = t.grid in
        let vs : List Row = after.rows in
        let a : Rectangle rows columns us = sized_rectangle z in
        let l : length us ≡ length vs = a.height ∙ sym b.height in
        let k : i < length us = omega (arith, a.height) in
        let e : get_or (mixed (from_row i) us vs) i [] ≡ get_or us i [] = mixed_at (from_row i) us vs i l k (grind (arith, nat_tests)) in
        let w : set (mixed (from_row i) us vs) i (get_or vs i []) ≡ mixed (from_row (i + 1)) us vs = mixed_set (from_row i) (from_row (i + 1)) us vs i l k (grind (arith, nat_tests), λ j y d. grind (arith, nat_tests)) in
        let d = n.turns (get_or us i []) (row_width rows columns i us a h) (mixed (from_row i) us vs) (mixed_rectangle rows columns (from_row i) us vs a b) e in
        rw (feed_append t s.bytes n.bytes, ← w) (d (feed t s.bytes) (s.leads t z))

-- and the cursor
pub painted : (first mid last : List ℕ) (rows columns : ℕ) (after : Picture) (i r c : ℕ) → Drawable rows columns after → rows ≤ i → PaintSent first mid rows columns after (from_row i) r c → last ≡ mid ++ step_bytes r c after.cursor_row after.cursor_column → Painted first last rows columns after
painted first mid last rows columns after i r c b h s w =
    record {
      bytes = s.bytes ++ step;
      appended = w ∙ ap (λ (x : List ℕ). x ++ step) s.appended ∙ append_assoc first s.bytes step;
      paints = λ t z. shown t z;
    }
  where
    step : List ℕ
    step = step_bytes r c after.cursor_row after.cursor_column

    shown : (t : Terminal) → Sized t rows columns → Shows (feed t (s.bytes ++ step)) after
    shown t z =
        let vs : List Row = after.rows in
        let l : length t.grid ≡ length vs = z.height ∙ sym b.rectangle.height in
        let e : mixed (from_row i) t.grid vs ≡ vs = mixed_none (from_row i) t.grid vs l (λ k y. let q : k < i = omega (arith, z.height) in grind (arith, nat_tests)) in
        let w0 : length (get_or vs 0 []) ≡ columns = row_width rows columns 0 vs b.rectangle (omega (arith, b.row_within)) in
        let m : Draws (showing vs r c) after step = draws_step vs r c after.cursor_row after.cursor_column (omega (arith, b.few_rows, b.row_within)) (omega (arith, b.few_columns, b.column_within)) (omega (arith, b.row_within, b.rectangle.height)) (omega (arith, b.column_within)) in
        let d : Shows (feed t s.bytes) (showing vs r c) = rw e at (s.leads t z) in
        rw (feed_append t s.bytes step) (m (feed t s.bytes) d)

-- rows before the last cost less than all
pub row_by_row : (i rows k : ℕ) → i < rows → ((i + 1) * k ≡ i * k + k) × (i * k + k ≤ rows * k)
row_by_row i rows k h =
    let e : (i + 1) * k ≡ i * k + k = add-mul i 1 k ∙ ap (λ (x : ℕ). i * k + x) (one-mul k) in
    (e, omega (arith, e, mul-le-mul_right {m = i + 1} {n = rows} k (omega arith)))

pub rows_by_rows : (i rows k : ℕ) → i ≤ rows → i * k ≤ rows * k
rows_by_rows i rows k h = mul-le-mul_right k h

-- at the front of what was lent
pub painted_front : (lent bs : List ℕ) (m n o rows columns : ℕ) (after : Picture) → lent ≡ bs → Painted [] (take m bs) rows columns after → n ≡ length (take m bs) → length bs ≡ o → n ≤ paint_cost rows columns → RepaintDone rows columns after o lent n
painted_front lent bs m n o rows columns after z d e f k =
    let a : take n lent ≡ d.bytes = ap (take n) z ∙ ap (λ (k : ℕ). take k bs) e ∙ take_of_length m bs ∙ d.appended in
    record { paints = subst (λ (x : List ℕ). Paints rows columns after x) (sym a) d.paints; fits = omega (arith, length-take m bs); cheap = k }
