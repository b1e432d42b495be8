-- What one key does to the text is what history has of it.
use Rattle.std.proofs.Common.{◌≡◌, ℕ, zero, suc, ◌⊎◌, List, [], ◌∷◌, ◌++◌, reverse, sym, refl, ap, ◌∙◌, inl, inr, ⊎_elim, append_assoc, append-nil}
use mathlib.Core.List.{reverse-append}
use Rattle.spec.specs.Text.{Text}
use Rattle.spec.specs.Motions.{times}
use Rattle.spec.specs.Editor.{Change, UndoUnit, Ed}
use Rattle.spec.specs.History.{recorded, finish, unmade, remade, undo_once, redo_once}
use Rattle.spec.specs.HistoryLaws.{unit_changes, undoable, Made, Undone}
use Rattle.laws.proofs.Replacements.{unmade_applies, remade_applies}
use Rattle.laws.proofs.Edits.{finish_text}
use Rattle.laws.proofs.HistoryEdits.{Edits}
use Rattle.laws.proofs.HistoryOutcomes.{closed}
use Rattle.laws.proofs.Histories.{Settled, with_undone, with_redone, undo_none, undo_some, redo_none, redo_some, undo_settled, redo_settled}
use Rattle.laws.proofs.UndoAll.{Same, undone_redone, redone_undone}

unmade_append : (ds cs : List Change) (t : Text) → unmade (ds ++ cs) t ≡ unmade cs (unmade ds t)
unfolding unmade
unmade_append [] cs t = refl
unmade_append (d ∷ ds) cs t = unmade_append ds cs _

remade_append : (ds cs : List Change) (t : Text) → remade (ds ++ cs) t ≡ remade ds (remade cs t)
unfolding remade
remade_append [] cs t = refl
remade_append (d ∷ ds) cs t = rw (remade_append ds cs t)

unit_changes_append : (us vs : List UndoUnit) → unit_changes (us ++ vs) ≡ unit_changes us ++ unit_changes vs
unit_changes_append [] vs = refl
unit_changes_append (u ∷ us) vs = rw (unit_changes_append us vs) (sym (append_assoc u.changes (unit_changes us) (unit_changes vs)))

-- Changes made.

pub made_none : (e : Ed) → Made e e
unfolding remade unmade
made_none e = record { recent = []; known = refl; made = refl; back = refl; redo = inl refl }

pub made_then : (e f g : Ed) → Made e f → Made f g → Made e g
made_then e f g x y =
    record {
      recent = y.recent ++ x.recent;
      known = y.known ∙ ap {B = List Change} (λ cs. y.recent ++ cs) x.known ∙ sym (append_assoc y.recent x.recent (undoable e));
      made = y.made ∙ ap (remade y.recent) x.made ∙ sym (remade_append y.recent x.recent e.text);
      back = x.back ∙ ap (unmade x.recent) y.back ∙ sym (unmade_append y.recent x.recent g.text);
      redo = ⊎_elim (λ (r : g.redo ≡ f.redo). ⊎_elim (λ (q : f.redo ≡ e.redo). inl (r ∙ q)) (λ (q : f.redo ≡ []). inr (r ∙ q)) x.redo) (λ (r : g.redo ≡ []). inr r) y.redo;
    }

pub edits_made : (e f : Ed) → Edits e f → Made e f
edits_made e f x =
    record {
      recent = x.recent;
      known = ap {B = List Change} (λ cs. cs ++ unit_changes f.undo) x.changes ∙ append_assoc x.recent e.command.changes (unit_changes f.undo) ∙ ap {B = List Change} (λ us. x.recent ++ (e.command.changes ++ unit_changes us)) x.undo;
      made = sym (remade_applies x.recent e.text f.text x.applied);
      back = sym (unmade_applies x.recent e.text f.text x.applied);
      redo = inl x.redo;
    }

recorded_undoable : (e : Ed) (cs : List Change) → unit_changes (recorded e cs).undo ≡ cs ++ unit_changes e.undo
unfolding recorded
recorded_undoable e [] = refl
recorded_undoable e (c ∷ cs) = refl

recorded_redo : (e : Ed) (cs : List Change) → ((recorded e cs).redo ≡ e.redo) ⊎ ((recorded e cs).redo ≡ [])
unfolding recorded
recorded_redo e [] = inl refl
recorded_redo e (c ∷ cs) = inr refl

pub closed_made : (e : Ed) (c : ℕ) → Made e (closed e c)
unfolding finish remade unmade
closed_made e c =
    record {
      recent = [];
      known = recorded_undoable e e.command.changes;
      made = finish_text e;
      back = sym (finish_text e);
      redo = recorded_redo e e.command.changes;
    }

-- Units undone and redone.

undone_none : (e : Ed) → Undone e e
unfolding remade unmade
undone_none e = record { units = []; undo = refl; redo = refl; unmade = refl; back = refl }

undone_then : (e f g : Ed) → Undone e f → Undone f g → Undone e g
undone_then e f g x y =
    record {
      units = x.units ++ y.units;
      undo = x.undo ∙ ap {B = List UndoUnit} (λ us. x.units ++ us) y.undo ∙ sym (append_assoc x.units y.units g.undo);
      redo = y.redo ∙ ap {B = List UndoUnit} (λ us. reverse y.units ++ us) x.redo ∙ sym (append_assoc (reverse y.units) (reverse x.units) e.redo) ∙ ap {B = List UndoUnit} (λ us. us ++ e.redo) (sym (reverse-append x.units y.units));
      unmade = y.unmade ∙ ap (unmade (unit_changes y.units)) x.unmade ∙ sym (unmade_append (unit_changes x.units) (unit_changes y.units) e.text) ∙ ap (λ cs. unmade cs e.text) (sym (unit_changes_append x.units y.units));
      back = x.back ∙ ap (remade (unit_changes x.units)) y.back ∙ sym (remade_append (unit_changes x.units) (unit_changes y.units) g.text) ∙ ap (λ cs. remade cs g.text) (sym (unit_changes_append x.units y.units));
    }

-- one unit
unit_undone : (e f : Ed) (u : UndoUnit) → e.undo ≡ u ∷ f.undo → f.redo ≡ u ∷ e.redo → f.text ≡ unmade u.changes e.text → e.text ≡ remade u.changes f.text → Undone e f
unit_undone e f u n r t b =
    let only : unit_changes (u ∷ []) ≡ u.changes = append-nil u.changes in
    record { units = u ∷ []; undo = n; redo = r; unmade = t ∙ ap (λ cs. unmade cs e.text) (sym only); back = b ∙ ap (λ cs. remade cs f.text) (sym only) }

undo_undone : (s : Text) (e : Ed) → Settled s e → Undone e (undo_once e)
undo_undone s e h = at e.undo refl
  where
    at : (us : List UndoUnit) → e.undo ≡ us → Undone e (undo_once e)
    at [] n = rw (undo_none e n) (undone_none e)
    at (u ∷ us) n =
        let same : (redo_once (undo_once e)).text ≡ e.text = (undone_redone s e u us h n).text in
        let again : redo_once (with_undone e u us) ≡ with_redone (with_undone e u us) u e.redo = redo_some (with_undone e u us) u e.redo refl in
        rw (undo_some e u us n) (unit_undone e (with_undone e u us) u n refl refl (sym same ∙ ap (λ f. (redo_once f).text) (undo_some e u us n) ∙ ap (λ f. f.text) again))

redo_undone : (s : Text) (e : Ed) → Settled s e → Undone (redo_once e) e
redo_undone s e h = at e.redo refl
  where
    at : (us : List UndoUnit) → e.redo ≡ us → Undone (redo_once e) e
    at [] n = rw (redo_none e n) (undone_none e)
    at (u ∷ us) n =
        let same : (undo_once (redo_once e)).text ≡ e.text = (redone_undone s e u us h n).text in
        let again : undo_once (with_redone e u us) ≡ with_undone (with_redone e u us) u e.undo = undo_some (with_redone e u us) u e.undo refl in
        rw (redo_some e u us n) (unit_undone (with_redone e u us) e u refl n (sym same ∙ ap (λ f. (undo_once f).text) (redo_some e u us n) ∙ ap (λ f. f.text) again) refl)

pub undo_times : (s : Text) (n : ℕ) (e : Ed) → Settled s e → Undone e (times n undo_once e)
undo_times s zero e h = undone_none e
undo_times s (suc n) e h = undone_then e (undo_once e) _ (undo_undone s e h) (undo_times s n (undo_once e) (undo_settled s e h))

pub redo_times : (s : Text) (n : ℕ) (e : Ed) → Settled s e → Undone (times n redo_once e) e
redo_times s zero e h = undone_none e
redo_times s (suc n) e h = undone_then _ (redo_once e) e (redo_times s n (redo_once e) (redo_settled s e h)) (redo_undone s e h)

-- of which only the text, undo and redo matter
pub undone_same : (e f d g : Ed) → Same e d → Same f g → Undone e f → Undone d g
undone_same e f d g x y u =
    record {
      units = u.units;
      undo = sym x.undo ∙ u.undo ∙ ap {B = List UndoUnit} (λ us. u.units ++ us) y.undo;
      redo = sym y.redo ∙ u.redo ∙ ap {B = List UndoUnit} (λ us. reverse u.units ++ us) x.redo;
      unmade = sym y.text ∙ u.unmade ∙ ap (unmade (unit_changes u.units)) x.text;
      back = sym x.text ∙ u.back ∙ ap (remade (unit_changes u.units)) y.text;
    }
