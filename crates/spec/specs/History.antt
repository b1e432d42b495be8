-- Changes of the text, how a command ends, undo and redo.
use Rattle.std.specs.Prelude.{ℕ, ◌+◌, false, cond, ◌&&◌, List, [], ◌∷◌, length, ◌==◌}
use Rattle.spec.specs.Text.{Text, part, replaced, column, clamp}
use Rattle.spec.specs.Editor.{Change, UndoUnit, Ed, with_text, with_cursor, with_kept_column, with_inserting, with_history, with_command, with_last_keys, with_changes, no_command_yet}

-- The bytes from a up to b become others, and the cursor goes to a place.
-- To take away no byte and put in none is no change.
unfoldable pub edit : Ed → ℕ → ℕ → Text → ℕ → Ed
edit e a b new to =
    cond (length (part e.text a b) == 0 && length new == 0)
    (with_cursor e to)
    (with_cursor (with_changes (with_text e (replaced e.text a b new)) (record { place = a; old = part e.text a b; new = new } ∷ e.command.changes)) to)

-- A command's changes are one unit of undo; they forget what could be redone. Its keys are those that `.` types again.
unfoldable pub recorded : Ed → List Change → Ed
recorded e [] = e
recorded e (c ∷ cs) = with_last_keys (with_history e (record { changes = c ∷ cs; cursor = e.command.began } ∷ e.undo) []) e.command.keys

-- the command is over; the cursor's column is the one that j and k keep to from now on
unfoldable pub finish : Ed → Ed
finish e = end (recorded e e.command.changes)
  where
    end : Ed → Ed
    end f = with_command (with_inserting (with_kept_column f (column f.text f.cursor)) false) (no_command_yet f.cursor)

-- the command is over; j and k keep to the column that they kept to
unfoldable pub finish_in_column : Ed → Ed
finish_in_column e = with_kept_column (finish e) e.kept_column

-- the command can't be done, or is none
unfoldable pub cancel : Ed → Ed
cancel e = finish_in_column e

-- a text with changes unmade, the newest of which comes first, and with them made again
unfoldable pub unmade : List Change → Text → Text
unmade [] t = t
unmade (c ∷ cs) t = unmade cs (replaced t c.place (c.place + length c.new) c.old)

unfoldable pub remade : List Change → Text → Text
remade [] t = t
remade (c ∷ cs) t = replaced (remade cs t) c.place (c.place + length c.old) c.new

-- where the newest change was made
unfoldable pub newest_place : List Change → ℕ
newest_place [] = 0
newest_place (c ∷ cs) = c.place

-- the cursor goes to where it stood before the command
unfoldable pub undo_once : Ed → Ed
undo_once e = by e.undo
  where
    by : List UndoUnit → Ed
    by [] = e
    by (u ∷ us) = with_history (with_changes (with_cursor (with_text e (unmade u.changes e.text)) (clamp (unmade u.changes e.text) u.cursor)) []) us (u ∷ e.redo)

-- the cursor goes to the command's last change
unfoldable pub redo_once : Ed → Ed
redo_once e = by e.redo
  where
    by : List UndoUnit → Ed
    by [] = e
    by (u ∷ us) = with_history (with_changes (with_cursor (with_text e (remade u.changes e.text)) (clamp (remade u.changes e.text) (newest_place u.changes))) []) (u ∷ e.undo) us
