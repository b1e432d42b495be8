-- The editor as a value. It is updated by the functions of this file alone, one for each thing that changes.
use Rattle.std.specs.Prelude.{ℕ, Bool, false, List, []}
use Rattle.spec.specs.Text.{Text}
use Rattle.spec.specs.Keys.{Pending, no_prefix}

-- one replacement: where, what stood there, and what stands there now
pub record Change : Type 0 where
  pub place : ℕ
  pub old : Text
  pub new : Text

-- what one command did, the newest change first, and where the cursor stood before it
pub record UndoUnit : Type 0 where
  pub changes : List Change
  pub cursor : ℕ

pub record Register : Type 0 where
  pub bytes : Text
  -- whether it holds whole lines; the last one's line end isn't among its bytes
  pub linewise : Bool

-- the command that is going on: its changes so far, the newest first; its keys; where the cursor stood as it began
pub record OpenCommand : Type 0 where
  pub changes : List Change
  pub keys : List ℕ
  pub began : ℕ
  pub pending : Pending

-- the screen's size, and which line and column of the text stand at its upper left
pub record View : Type 0 where
  pub rows : ℕ
  pub columns : ℕ
  pub top : ℕ
  pub left : ℕ

pub record Ed : Type 0 where
  pub text : Text
  pub cursor : ℕ
  -- the column that j and k keep to
  pub kept_column : ℕ
  pub inserting : Bool
  pub register : Register
  pub undo : List UndoUnit
  pub redo : List UndoUnit
  pub command : OpenCommand
  -- the keys of the last command that changed something
  pub last_keys : List ℕ
  pub view : View

abbrev pub with_text : Ed → Text → Ed
with_text e t = record { text = t; cursor = e.cursor; kept_column = e.kept_column; inserting = e.inserting; register = e.register; undo = e.undo; redo = e.redo; command = e.command; last_keys = e.last_keys; view = e.view }

abbrev pub with_cursor : Ed → ℕ → Ed
with_cursor e a = record { text = e.text; cursor = a; kept_column = e.kept_column; inserting = e.inserting; register = e.register; undo = e.undo; redo = e.redo; command = e.command; last_keys = e.last_keys; view = e.view }

abbrev pub with_kept_column : Ed → ℕ → Ed
with_kept_column e c = record { text = e.text; cursor = e.cursor; kept_column = c; inserting = e.inserting; register = e.register; undo = e.undo; redo = e.redo; command = e.command; last_keys = e.last_keys; view = e.view }

abbrev pub with_inserting : Ed → Bool → Ed
with_inserting e b = record { text = e.text; cursor = e.cursor; kept_column = e.kept_column; inserting = b; register = e.register; undo = e.undo; redo = e.redo; command = e.command; last_keys = e.last_keys; view = e.view }

abbrev pub with_register : Ed → Register → Ed
with_register e r = record { text = e.text; cursor = e.cursor; kept_column = e.kept_column; inserting = e.inserting; register = r; undo = e.undo; redo = e.redo; command = e.command; last_keys = e.last_keys; view = e.view }

abbrev pub with_history : Ed → List UndoUnit → List UndoUnit → Ed
with_history e us rs = record { text = e.text; cursor = e.cursor; kept_column = e.kept_column; inserting = e.inserting; register = e.register; undo = us; redo = rs; command = e.command; last_keys = e.last_keys; view = e.view }

abbrev pub with_command : Ed → OpenCommand → Ed
with_command e o = record { text = e.text; cursor = e.cursor; kept_column = e.kept_column; inserting = e.inserting; register = e.register; undo = e.undo; redo = e.redo; command = o; last_keys = e.last_keys; view = e.view }

abbrev pub with_last_keys : Ed → List ℕ → Ed
with_last_keys e ks = record { text = e.text; cursor = e.cursor; kept_column = e.kept_column; inserting = e.inserting; register = e.register; undo = e.undo; redo = e.redo; command = e.command; last_keys = ks; view = e.view }

abbrev pub with_view : Ed → View → Ed
with_view e v = record { text = e.text; cursor = e.cursor; kept_column = e.kept_column; inserting = e.inserting; register = e.register; undo = e.undo; redo = e.redo; command = e.command; last_keys = e.last_keys; view = v }

abbrev pub with_changes : Ed → List Change → Ed
with_changes e cs = with_command e (record { changes = cs; keys = e.command.keys; began = e.command.began; pending = e.command.pending })

abbrev pub with_keys : Ed → List ℕ → ℕ → Ed
with_keys e ks a = with_command e (record { changes = e.command.changes; keys = ks; began = a; pending = e.command.pending })

abbrev pub with_pending : Ed → Pending → Ed
with_pending e p = with_command e (record { changes = e.command.changes; keys = e.command.keys; began = e.command.began; pending = p })

-- no command yet, the cursor at a place
abbrev pub no_command_yet : ℕ → OpenCommand
no_command_yet a = record { changes = []; keys = []; began = a; pending = no_prefix }

-- the editor at its beginning, with a text on a screen of so many rows and columns
unfoldable pub initial : Text → ℕ → ℕ → Ed
initial t r c = record { text = t; cursor = 0; kept_column = 0; inserting = false; register = record { bytes = []; linewise = false }; undo = []; redo = []; command = no_command_yet 0; last_keys = []; view = record { rows = r; columns = c; top = 0; left = 0 } }
