-- Drawing on the way: some rows are still pending, the others were sent.
use Rattle.std.specs.Prelude.{◌≡◌, ℕ, suc, ◌+◌, ◌<◌, ◌≤◌, Bool, true, false, cond, List, [], ◌∷◌, ◌++◌, length, take, Some, None, Option, ◌==◌, nat_le, nat_lt}
use Rattle.spec.specs.Screen.{Row, Picture}
use Rattle.spec.specs.Promises.{Draws, same_row, rows_cost, cost}
use Rattle.terminals.specs.Drawing.{showing, TurnsRow}

-- what a row may cost
abbrev pub row_cost : ℕ → Row → Row → ℕ
row_cost columns old new = cond (same_row old new) 0 (16 + columns)

-- the pending rows of the one picture, the others of the other
unfoldable pub mixed : (ℕ → Bool) → List Row → List Row → List Row
mixed pending [] vs = []
mixed pending (u ∷ us) [] = []
mixed pending (u ∷ us) (v ∷ vs) = cond (pending 0) u v ∷ mixed (λ k. pending (suc k)) us vs

-- what the pending rows may cost
unfoldable pub pending_cost : ℕ → (ℕ → Bool) → List Row → List Row → ℕ
pending_cost columns pending [] vs = 0
pending_cost columns pending (u ∷ us) [] = 0
pending_cost columns pending (u ∷ us) (v ∷ vs) = cond (pending 0) (row_cost columns u v) 0 + pending_cost columns (λ k. pending (suc k)) us vs

-- The order of rows: the last one first, and the cursor's row behind all others. Those that are pending once the last row and all above row i were sent:
unfoldable pub pending_from : (last cursor i : ℕ) → ℕ → Bool
pending_from last cursor i k = cond (k == cursor) true (cond (k == last) false (nat_le i k))

-- and how many were looked at by then
unfoldable pub visited : (last cursor i : ℕ) → ℕ
visited last cursor i = cond (last == cursor) i (cond (nat_lt cursor i) i (i + 1))

abbrev pub all_pending : ℕ → Bool
all_pending k = true

abbrev pub none_pending : ℕ → Bool
none_pending k = false

-- What was sent for row i, between what was written before and after.
pub record RowSent (first last : List ℕ) (rows columns i : ℕ) (old new : Row) (r c r' c' : ℕ) : Type 0 where
  pub bytes : List ℕ
  pub appended : last ≡ first ++ bytes
  pub turns : TurnsRow rows columns i old new r c r' c' bytes
  pub cheap : length bytes ≤ row_cost columns old new

-- What was sent so far of a change from one picture to another, with the cursor then at r and c.
pub record Sent (first last : List ℕ) (columns : ℕ) (before after : Picture) (pending : ℕ → Bool) (r c : ℕ) : Type 0 where
  pub bytes : List ℕ
  pub appended : last ≡ first ++ bytes
  pub draws : Draws before (showing (mixed pending before.rows after.rows) r c) bytes
  pub cheap : length bytes + pending_cost columns pending before.rows after.rows ≤ rows_cost columns before.rows after.rows

-- What was sent in all.
pub record Drawn (first last : List ℕ) (columns : ℕ) (before after : Picture) : Type 0 where
  pub bytes : List ℕ
  pub appended : last ≡ first ++ bytes
  pub draws : Draws before after bytes
  pub cheap : length bytes ≤ cost columns before after
  pub quiet : before ≡ after → bytes ≡ []

-- What a redraw promises of the output lent, of o bytes, which then begins with bs: n bytes are to be sent, none for equal pictures;
-- or it is refused, since there is less room than the pictures may cost.
pub record RedrawDone (before after : Picture) (columns o : ℕ) (bs : List ℕ) (n : ℕ) : Type 0 where
  pub draws : Draws before after (take n bs)
  pub fits : n ≤ o
  pub cheap : n ≤ cost columns before after
  pub quiet : before ≡ after → n ≡ 0

abbrev pub RedrawSays : Picture → Picture → ℕ → ℕ → List ℕ → Option ℕ → Type 0
RedrawSays before after columns o bs (Some n) = RedrawDone before after columns o bs n
RedrawSays before after columns o bs None = o < cost columns before after
