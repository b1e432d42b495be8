-- What was sent for a row, with the cursor then at a position; or the room was too little for it.
use Rattle.std.specs.Prelude.{ℕ, ◌+◌, ◌<◌, Bool, List, [], length, Some, None, Option, slice_index_or}
use Rattle.spec.specs.Screen.{Picture}
use Rattle.spec.specs.Promises.{cost}
use Rattle.terminals.specs.Progress.{row_cost, RowSent, pending_from, Sent}
use Rattle.terminals.specs.Painting.{from_row, PaintSent}
use Rattle.term_rows.specs.declared.position.Position.{Position}
use Rattle.term.specs.Scene.{Scene}

abbrev pub RowSays : (first last : List ℕ) (capacity columns i : ℕ) → Scene → Position → Option Position → Type 0
RowSays first last capacity columns i s at (Some to) = RowSent first last (length s.before.rows) columns i (slice_index_or s.before.rows i []) (slice_index_or s.after.rows i []) at.row at.column to.row to.column
RowSays first last capacity columns i s at None = capacity < length first + row_cost columns (slice_index_or s.before.rows i []) (slice_index_or s.after.rows i [])

-- What was sent for the rows above the last but the cursor's, behind what leads to where only the last row was sent; or the room is too little for the pictures.
abbrev pub UpperSays : (first last : List ℕ) (capacity columns bottom cursor : ℕ) → Scene → Position → Option Position → Type 0
UpperSays first last capacity columns bottom cursor s at (Some to) =
    (start : List ℕ) → Sent start first columns s.before s.after (pending_from bottom cursor 0) at.row at.column → Sent start last columns s.before s.after (pending_from bottom cursor bottom) to.row to.column
UpperSays first last capacity columns bottom cursor s at None =
    (start : List ℕ) → Sent start first columns s.before s.after (pending_from bottom cursor 0) at.row at.column → capacity < length start + cost columns s.before s.after

-- What was sent so far, with the cursor then at a position; or the room is too little for the pictures.
abbrev pub SentSays : (first last : List ℕ) (capacity columns : ℕ) (pending : ℕ → Bool) → Scene → Option Position → Type 0
SentSays first last capacity columns pending s (Some to) = Sent first last columns s.before s.after pending to.row to.column
SentSays first last capacity columns pending s None = capacity < length first + cost columns s.before s.after

-- What was sent for all rows, behind what leads to a cursor at home.
abbrev pub PaintSays : (first last : List ℕ) (rows columns : ℕ) → Picture → Position → Type 0
PaintSays first last rows columns after to = (start : List ℕ) → PaintSent start first rows columns after (from_row 0) 0 0 → PaintSent start last rows columns after (from_row rows) to.row to.column
