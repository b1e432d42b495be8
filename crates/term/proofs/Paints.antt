-- The rows of a repaint, one turn of the loop after another.
use Rattle.std.proofs.Common.{◌≡◌, ℕ, ◌+◌, ◌*◌, ◌<◌, ◌≤◌, Bool, List, [], ◌++◌, length, get_or, refl, ap, ◌∙◌, subst, arith}
use Rattle.std.proofs.ByRecursion.{All-get_or}
use Rattle.spec.specs.Screen.{Row, Picture}
use Rattle.terminals.specs.Sequences.{Printable}
use Rattle.terminals.specs.Drawing.{Drawable, step_bytes, update_bytes}
use Rattle.terminals.specs.Painting.{from_row, RowPainted, PaintSent}
use Rattle.terminals.proofs.Rows.{row_width}
use Rattle.terminals.proofs.Painting.{row_painted, paint_row, row_by_row}
use Rattle.term_rows.specs.declared.position.Position.{Position}
use Rattle.term.specs.Says.{PaintSays}
use Rattle.term_rows.specs.Shortest.{ShortestWhole}

pub row_length : (rows columns i : ℕ) (after : Picture) → Drawable rows columns after → i < rows → length (get_or after.rows i []) ≡ columns
row_length rows columns i after d h = row_width rows columns i after.rows d.rectangle h

painted_row : (mid last : List ℕ) (rows columns i a b : ℕ) (clear : Bool) (after : Picture) (new : Row) (r c : ℕ) → Drawable rows columns after → i < rows → new ≡ get_or after.rows i [] → a ≡ 0 → ShortestWhole new b clear → last ≡ (mid ++ step_bytes r c i a) ++ update_bytes new a b clear → RowPainted mid last rows columns i (get_or after.rows i []) r c i b
painted_row mid last rows columns i a b clear after new r c d h n z u w =
    let x : Row = get_or after.rows i [] in
    let p : Printable x = All-get_or Printable after.rows i [] (omega (arith, d.rectangle.height)) d.printable in
    let v : ShortestWhole x b clear = subst (λ (y : Row). ShortestWhole y b clear) n u in
    let e : last ≡ (mid ++ step_bytes r c i 0) ++ update_bytes x 0 b clear = w ∙ ap (λ (k : ℕ). (mid ++ step_bytes r c i k) ++ update_bytes new k b clear) z ∙ ap (λ (y : Row). (mid ++ step_bytes r c i 0) ++ update_bytes y 0 b clear) n in
    row_painted mid (mid ++ step_bytes r c i 0) last rows columns i b clear x r c h d.few_rows d.few_columns (row_length rows columns i after d h) p v.updates refl e

pub paint_more : (first mid last : List ℕ) (rows columns i a b : ℕ) (clear : Bool) (after : Picture) (new : Row) (r c r' c' : ℕ) → Drawable rows columns after → i < rows → new ≡ get_or after.rows i [] → a ≡ 0 → ShortestWhole new b clear → last ≡ (mid ++ step_bytes r c i a) ++ update_bytes new a b clear → r' ≡ i → c' ≡ b → ((start : List ℕ) → PaintSent start first rows columns after (from_row 0) 0 0 → PaintSent start mid rows columns after (from_row i) r c) → (start : List ℕ) → PaintSent start first rows columns after (from_row 0) 0 0 → PaintSent start last rows columns after (from_row (i + 1)) r' c'
paint_more first mid last rows columns i a b clear after new r c r' c' d h n z u w p q s start k = rw (p, q) (paint_row start mid last rows columns after i r c i b d.rectangle h (s start k) (painted_row mid last rows columns i a b clear after new r c d h n z u w))

-- what is added in each turn, in bytes and in touches
pub each_more : (i rows x y z k k' : ℕ) → i < rows → k' ≡ k → y ≤ x + i * k → z ≤ y + k' → z ≤ x + (i + 1) * k
each_more i rows x y z k k' h e a b = omega (arith, (row_by_row i rows k h).0)

-- the same of an equal height
pub paint_says : (first last : List ℕ) (rows rows' columns : ℕ) (after : Picture) (to : Position) → rows ≡ rows' → PaintSays first last rows columns after to → PaintSays first last rows' columns after to
paint_says first last rows rows' columns after to e h = subst (λ (n : ℕ). PaintSays first last n columns after to) e h

pub long_says : (x y rows rows' k : ℕ) → rows ≡ rows' → y ≤ x + rows * k → y ≤ x + rows' * k
long_says x y rows rows' k e h = subst (λ (n : ℕ). y ≤ x + n * k) e h
