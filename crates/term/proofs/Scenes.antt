-- What is known of the rows of a change.
use Rattle.std.proofs.Common.{◌≡◌, ℕ, ◌+◌, ◌<◌, ◌≤◌, Bool, List, [], ◌++◌, length, get_or, sym, refl, ap, ◌∙◌, subst, arith}
use Rattle.std.proofs.ByRecursion.{All-get_or}
use Rattle.spec.specs.Screen.{Row, Picture}
use Rattle.terminals.specs.Sequences.{Printable}
use Rattle.terminals.specs.Drawing.{Rectangle, Drawable, step_bytes, update_bytes, Updates}
use Rattle.terminals.specs.Progress.{RowSent, row_cost}
use Rattle.terminals.proofs.Rows.{row_width}
use Rattle.terminals.proofs.Sending.{row_updated}
use Rattle.terminals.proofs.Mixed.{differs_cost}
use Rattle.term.specs.Scene.{Scene, Redrawable}
use Rattle.term_rows.specs.Shortest.{Shortest}

abbrev pub before_row : Scene → ℕ → Row
before_row s i = get_or s.before.rows i []

abbrev pub after_row : Scene → ℕ → Row
after_row s i = get_or s.after.rows i []

abbrev pub height : Scene → ℕ
height s = length s.before.rows

pub after_height : (columns : ℕ) (s : Scene) → Redrawable columns s → length s.after.rows ≡ height s
after_height columns s d = d.after.rectangle.height

pub after_width : (columns i : ℕ) (s : Scene) → Redrawable columns s → i < height s → length (after_row s i) ≡ columns
after_width columns i s d h = row_width (height s) columns i s.after.rows d.after.rectangle h

pub after_printable : (columns i : ℕ) (s : Scene) → Redrawable columns s → i < height s → Printable (after_row s i)
after_printable columns i s d h = All-get_or Printable s.after.rows i [] (omega (arith, d.after.rectangle.height)) d.after.printable

-- rows as they were read
pub differ : (s : Scene) (i a b : ℕ) (clear : Bool) (old new : Row) → old ≡ before_row s i → new ≡ after_row s i → Shortest old new a b clear → before_row s i ≡ after_row s i → ⊥
differ s i a b clear old new p q u e = u.differs (ap (λ (r : Row). get_or r a 0) (p ∙ e ∙ sym q))

pub update_sent : (first last : List ℕ) (columns i a b : ℕ) (clear : Bool) (s : Scene) (old new : Row) (r c : ℕ) → Redrawable columns s → i < height s → old ≡ before_row s i → new ≡ after_row s i → Shortest old new a b clear → last ≡ (first ++ step_bytes r c i a) ++ update_bytes new a b clear → length last ≤ length first + (16 + length new) → RowSent first last (height s) columns i (before_row s i) (after_row s i) r c i b
update_sent first last columns i a b clear s old new r c d h p q u w l =
    let e : length new ≡ columns = ap length q ∙ after_width columns i s d h in
    let v : Updates (before_row s i) (after_row s i) a b clear = rw (← p, ← q) u.updates in
    row_updated first (first ++ step_bytes r c i a) last (height s) columns i a b clear (before_row s i) (after_row s i) r c h d.after.few_rows d.after.few_columns (after_width columns i s d h) (after_printable columns i s d h) v (differ s i a b clear old new p q u) refl (rw (← q) w) (omega arith)

pub update_refused : (capacity n columns i a b : ℕ) (clear : Bool) (s : Scene) (old new : Row) → Redrawable columns s → i < height s → old ≡ before_row s i → new ≡ after_row s i → Shortest old new a b clear → capacity < n + (16 + length new) → capacity < n + row_cost columns (before_row s i) (after_row s i)
update_refused capacity n columns i a b clear s old new d h p q u l =
    let e : length new ≡ columns = ap length q ∙ after_width columns i s d h in
    rw (differs_cost columns (before_row s i) (after_row s i) (differ s i a b clear old new p q u)) (omega arith)

-- two pictures that can be drawn on one screen
pub redrawable_pictures : (rows columns k : ℕ) (kept : List ℕ) (p q : Picture) → Drawable rows columns p → Drawable rows columns q → Redrawable columns (record { before = p; after = q; row_touches = k; kept = kept })
redrawable_pictures rows columns k kept p q a b =
    let e : rows ≡ length p.rows = sym a.rectangle.height in
    record { before = subst (λ (n : ℕ). Rectangle n columns p.rows) e a.rectangle; after = subst (λ (n : ℕ). Drawable n columns q) e b }
