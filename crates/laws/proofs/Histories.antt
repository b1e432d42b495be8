-- A sound history: undo leads back from the text as the command began to the first text, redo leads on from it,
-- and the open changes lead from it to the text.
use Rattle.std.proofs.Common.{◌≡◌, List, [], ◌∷◌, sym, refl, ap, subst}
use Rattle.spec.specs.Text.{Text, clamp}
use Rattle.spec.specs.Editor.{Change, UndoUnit, Ed, with_text, with_cursor, with_changes, with_history}
use Rattle.spec.specs.History.{recorded, finish, unmade, remade, newest_place, undo_once, redo_once}
use Rattle.laws.proofs.Replacements.{Applies, then, remade_applies, unmade_applies}
use Rattle.laws.proofs.HistoryEdits.{Edits}

-- from a first text by units, the newest first, to a text
abbrev pub UndoChain : Text → List UndoUnit → Text → Type 0
UndoChain s [] t = s ≡ t
UndoChain s (u ∷ us) t = (m : Text) × UndoChain s us m × Applies u.changes m t

-- from a text on by units, the next first
abbrev pub RedoChain : Text → List UndoUnit → Type 0
RedoChain t [] = Unit {0}
RedoChain t (u ∷ us) = (m : Text) × Applies u.changes t m × RedoChain m us

pub record History (s : Text) (e : Ed) : Type 0 where
  pub start : Text
  pub undo : UndoChain s e.undo start
  pub changes : Applies e.command.changes start e.text
  pub redo : RedoChain start e.redo

-- with no open changes
pub record Settled (s : Text) (e : Ed) : Type 0 where
  pub undo : UndoChain s e.undo e.text
  pub redo : RedoChain e.text e.redo

pub edits_history : (s : Text) (e f : Ed) → Edits e f → History s e → History s f
edits_history s e f x h =
    record {
      start = h.start;
      undo = subst (λ us. UndoChain s us h.start) (sym x.undo) h.undo;
      changes = subst (λ cs. Applies cs h.start f.text) (sym x.changes) (then x.recent e.command.changes h.start e.text f.text x.applied h.changes);
      redo = subst (RedoChain h.start) (sym x.redo) h.redo;
    }

pub settled_history : (s : Text) (e : Ed) → e.command.changes ≡ [] → History s e → Settled s e
settled_history s e n h =
    let same : h.start ≡ e.text = subst (λ cs. Applies cs h.start e.text) n h.changes in
    record { undo = subst (UndoChain s e.undo) same h.undo; redo = subst (λ t. RedoChain t e.redo) same h.redo }

pub history_settled : (s : Text) (e : Ed) → e.command.changes ≡ [] → Settled s e → History s e
history_settled s e n h =
    record { start = e.text; undo = h.undo; changes = subst (λ cs. Applies cs e.text e.text) (sym n) refl; redo = h.redo }

-- The end of a command.

recorded_settled : (s : Text) (e : Ed) (cs : List Change) → e.command.changes ≡ cs → History s e → Settled s (recorded e cs)
unfolding recorded
recorded_settled s e [] n h = settled_history s e n h
recorded_settled s e (c ∷ cs) n h =
    record { undo = (h.start, h.undo, subst (λ ds. Applies ds h.start e.text) n h.changes); redo = tt }

pub finish_settled : (s : Text) (e : Ed) → History s e → Settled s (finish e)
unfolding finish
finish_settled s e h =
    let r : Settled s (recorded e e.command.changes) = recorded_settled s e e.command.changes refl h in
    record { undo = r.undo; redo = r.redo }

-- Undo and redo.

abbrev pub with_undone : Ed → UndoUnit → List UndoUnit → Ed
with_undone e u us =
    with_history (with_changes (with_cursor (with_text e (unmade u.changes e.text)) (clamp (unmade u.changes e.text) u.cursor)) []) us (u ∷ e.redo)

abbrev pub with_redone : Ed → UndoUnit → List UndoUnit → Ed
with_redone e u us =
    with_history (with_changes (with_cursor (with_text e (remade u.changes e.text)) (clamp (remade u.changes e.text) (newest_place u.changes))) []) (u ∷ e.undo) us

pub undo_none : (e : Ed) → e.undo ≡ [] → undo_once e ≡ e
unfolding undo_once
undo_none e n = ap (λ us. elim us [ [] ↦ e | v ∷ vs ↦ with_undone e v vs ]) n

pub undo_some : (e : Ed) (u : UndoUnit) (us : List UndoUnit) → e.undo ≡ u ∷ us → undo_once e ≡ with_undone e u us
unfolding undo_once
undo_some e u us n = ap (λ us. elim us [ [] ↦ e | v ∷ vs ↦ with_undone e v vs ]) n

pub redo_none : (e : Ed) → e.redo ≡ [] → redo_once e ≡ e
unfolding redo_once
redo_none e n = ap (λ us. elim us [ [] ↦ e | v ∷ vs ↦ with_redone e v vs ]) n

pub redo_some : (e : Ed) (u : UndoUnit) (us : List UndoUnit) → e.redo ≡ u ∷ us → redo_once e ≡ with_redone e u us
unfolding redo_once
redo_some e u us n = ap (λ us. elim us [ [] ↦ e | v ∷ vs ↦ with_redone e v vs ]) n

-- the text to which a unit's undoing leads, and from which redoing it leads here
undone_settled : (s : Text) (e : Ed) (u : UndoUnit) (us : List UndoUnit) → UndoChain s (u ∷ us) e.text → RedoChain e.text e.redo → Settled s (with_undone e u us)
undone_settled s e u us (m, c, a) r =
    let same : m ≡ unmade u.changes e.text = sym (unmade_applies u.changes m e.text a) in
    record { undo = subst (UndoChain s us) same c; redo = (e.text, subst (λ t. Applies u.changes t e.text) same a, r) }

redone_settled : (s : Text) (e : Ed) (u : UndoUnit) (us : List UndoUnit) → RedoChain e.text (u ∷ us) → UndoChain s e.undo e.text → Settled s (with_redone e u us)
redone_settled s e u us (m, a, c) r =
    let same : m ≡ remade u.changes e.text = sym (remade_applies u.changes e.text m a) in
    record { undo = (e.text, r, subst (Applies u.changes e.text) same a); redo = subst (λ t. RedoChain t us) same c }

pub undo_settled : (s : Text) (e : Ed) → Settled s e → Settled s (undo_once e)
undo_settled s e h = at e.undo refl
  where
    at : (us : List UndoUnit) → e.undo ≡ us → Settled s (undo_once e)
    at [] n = rw (undo_none e n) h
    at (u ∷ us) n = rw (undo_some e u us n) (undone_settled s e u us (subst (λ vs. UndoChain s vs e.text) n h.undo) h.redo)

pub redo_settled : (s : Text) (e : Ed) → Settled s e → Settled s (redo_once e)
redo_settled s e h = at e.redo refl
  where
    at : (us : List UndoUnit) → e.redo ≡ us → Settled s (redo_once e)
    at [] n = rw (redo_none e n) h
    at (u ∷ us) n = rw (redo_some e u us n) (redone_settled s e u us (subst (RedoChain e.text) n h.redo) h.undo)
