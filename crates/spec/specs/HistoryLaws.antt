-- More on history: nothing changes the text that it doesn't know, u and control R undo each other, and what editors weigh on the way.
use Rattle.std.specs.Prelude.{◌≡◌, ℕ, suc, ◌+◌, ◌-◌, ◌*◌, ◌<◌, ◌≤◌, max, true, false, ◌⊎◌, List, [], ◌∷◌, ◌++◌, reverse, length}
use Rattle.spec.specs.Bytes.{ascii, control_r}
use Rattle.spec.specs.Motions.{times, or_one}
use Rattle.spec.specs.Keys.{Action, join_lines, go_back, go_forth, action, key_of, ready, counting, no_prefix}
use Rattle.spec.specs.Editor.{Change, UndoUnit, Ed}
use Rattle.spec.specs.History.{cancel, unmade, remade, undo_once, redo_once}
use Rattle.spec.specs.Commands.{join_once}
use Rattle.spec.specs.Dispatch.{noted, typed_key, replay, repeats, pending_count, key}
use Rattle.spec.specs.Promises.{Reachable, changes_weight, units_weight, weight}

-- the changes of units, in their order
abbrev pub unit_changes : List UndoUnit → List Change
unit_changes [] = []
unit_changes (u ∷ us) = u.changes ++ unit_changes us

-- all changes that can be undone, the newest first: those of the command that is going on, and those of the units
abbrev pub undoable : Ed → List Change
undoable e = e.command.changes ++ unit_changes e.undo

-- Changes were made: they are the newest of those that can be undone, and lead from the one text to the other and back.
-- Perhaps there are none, and the text is the same.
pub record Made (e f : Ed) : Type 0 where
  pub recent : List Change
  pub known : undoable f ≡ recent ++ undoable e
  pub made : f.text ≡ remade recent e.text
  pub back : e.text ≡ unmade recent f.text
  -- what could be redone can be redone, or is forgotten
  pub redo : (f.redo ≡ e.redo) ⊎ (f.redo ≡ [])

-- Units were undone, the newest first: they are now the next to be redone, and their changes are unmade.
pub record Undone (e f : Ed) : Type 0 where
  pub units : List UndoUnit
  pub undo : e.undo ≡ units ++ f.undo
  pub redo : f.redo ≡ reverse units ++ e.redo
  pub unmade : f.text ≡ unmade (unit_changes units) e.text
  pub back : e.text ≡ remade (unit_changes units) f.text

-- What a key may do to the text: make changes; undo units, if it is u; redo units, if it is control R, which undoing them takes back.
pub data Accounted (e : Ed) (k : ℕ) (f : Ed) : Type 0 where
  made : Made e f → Accounted e k f
  undone : k ≡ ascii "u" → Undone e f → Accounted e k f
  redone : k ≡ control_r → Undone f e → Accounted e k f

-- Nothing changes the text that history doesn't know.
abbrev pub OnlyChangesChange : Type 0
OnlyChangesChange = (e : Ed) (k : ℕ) → Reachable e → Accounted e k (key e k)

-- the text and all that can be undone and redone are the same
pub record Restored (e f : Ed) : Type 0 where
  pub text : f.text ≡ e.text
  pub undo : f.undo ≡ e.undo
  pub redo : f.redo ≡ e.redo

-- where a command may begin
pub record Ready (e : Ed) : Type 0 where
  pub reachable : Reachable e
  pub not_inserting : e.inserting ≡ false
  pub nothing_pending : e.command.pending ≡ no_prefix

-- What u undoes control R redoes, and what control R redoes u undoes.
pub record UndoKeyRedoKey : Type 0 where
  pub back_and_forth : (e : Ed) → Ready e → 0 < length e.undo → Restored e (key (key e (ascii "u")) control_r)
  pub forth_and_back : (e : Ed) → Ready e → 0 < length e.redo → Restored e (key (key e control_r) (ascii "u"))

-- What editors weigh on the way of a key.

-- a key that is a command of one key, with a count or 0 for none
pub record Runs (e : Ed) (k n : ℕ) (a : Action) : Type 0 where
  pub not_inserting : e.inserting ≡ false
  pub counted : e.command.pending ≡ ready (counting n)
  pub acts : key_of k ≡ action a

-- behind each line joined
pub data Joining (e : Ed) (k : ℕ) : Ed → Type 0 where
  joined : (n j : ℕ) → Runs e k n join_lines → j ≤ max 1 (or_one n - 1) → Joining e k (times j join_once (noted e k))

-- behind each key of a command that is typed again, and on the way of it
pub data Replaying : Ed → List ℕ → Ed → Type 0 where
  during : {e f : Ed} {k : ℕ} {ks : List ℕ} → Joining e k f → Replaying e (k ∷ ks) f
  behind : {e : Ed} {k : ℕ} {ks : List ℕ} → Replaying e (k ∷ ks) (typed_key e k)
  further : {e f : Ed} {k : ℕ} {ks : List ℕ} → 0 < length (typed_key e k).command.keys → Replaying (typed_key e k) ks f → Replaying e (k ∷ ks) f

-- a repeat so far: the last change typed again i times
abbrev pub repeated : Ed → ℕ → Ed
repeated e i = times i (λ f. replay f e.last_keys) (cancel e)

-- the editors on the way of a repeat, and of a key that joins lines
pub data Passed (e : Ed) (k : ℕ) : Ed → Type 0 where
  joining : {f : Ed} → Joining e k f → Passed e k f
  replayed : (i : ℕ) → repeats e k ≡ true → i ≤ or_one (pending_count e.command.pending) → Passed e k (repeated e i)
  replaying : {f : Ed} (i : ℕ) → repeats e k ≡ true → i < or_one (pending_count e.command.pending) → Replaying (repeated e i) e.last_keys f → Passed e k f

-- the editors on the way of u and control R: behind each unit undone or redone
pub data Moved (e : Ed) (k : ℕ) : Ed → Type 0 where
  undoing : (n j : ℕ) → Runs e k n go_back → j ≤ or_one n → Moved e k (times j undo_once (noted e k))
  redoing : (n j : ℕ) → Runs e k n go_forth → j ≤ or_one n → Moved e k (times j redo_once (noted e k))

-- of an editor's weight, what only undo and redo make less: the text, and the changes that can be undone
abbrev pub recorded_weight : Ed → ℕ
recorded_weight e = length e.text + (changes_weight e.command.changes + units_weight e.undo)

-- An editor f on the way from e to g: what is recorded doesn't become less, and f weighs no more than e and twice g, and 1 for the key.
-- Twice, since f's register may hold what was taken away on the way: it was a part of a text, which is recorded.
pub record Between (e f g : Ed) : Type 0 where
  pub from : recorded_weight e ≤ recorded_weight f
  pub to : recorded_weight f ≤ recorded_weight g
  pub bound : weight f ≤ suc (weight e + 2 * weight g)

pub record BetweenIsBounded : Type 0 where
  pub passed : (e f : Ed) (k : ℕ) → Reachable e → Passed e k f → Between e f (key e k)
  pub moved : (e f : Ed) (k : ℕ) → Reachable e → Moved e k f → weight f ≤ suc (weight e + weight (key e k))
