-- What a command does to the editor before it ends: changes are made and recorded; undo and redo stay.
use Rattle.std.proofs.Common.{◌≡◌, ℕ, ◌+◌, ◌≤◌, max, Bool, true, ◌&&◌, eqb, List, [], ◌∷◌, ◌++◌, length, sym, refl, ap, ◌∙◌, append_assoc, arith, length-drop, length-take}
use Rattle.std.proofs.lemmas.Bool.{cond_both}
use Rattle.spec.specs.Text.{Text, part, replaced}
use Rattle.spec.specs.Motions.{Region}
use Rattle.spec.specs.Keys.{Pending, no_prefix}
use Rattle.spec.specs.Editor.{Change, Ed, with_text, with_cursor, with_inserting, with_pending, with_changes}
use Rattle.spec.specs.History.{edit}
use Rattle.spec.specs.Commands.{yanked, start_insert}
use Rattle.spec.specs.Promises.{changes_weight, units_weight}
use Rattle.spec.specs.HistoryLaws.{recorded_weight}
use Rattle.laws.proofs.Replacements.{Applies, replacing, then}
use Rattle.laws.proofs.Weights.{changes_weight_append, applies_weight}

pub record Edits (e f : Ed) : Type 0 where
  pub recent : List Change
  pub applied : Applies recent e.text f.text
  pub changes : f.command.changes ≡ recent ++ e.command.changes
  pub undo : f.undo ≡ e.undo
  pub redo : f.redo ≡ e.redo
  pub keys : f.command.keys ≡ e.command.keys
  pub began : f.command.began ≡ e.command.began
  pub last_keys : f.last_keys ≡ e.last_keys
  -- what goes into the register was a part of the text
  pub register : length f.register.bytes ≤ max (length e.register.bytes) (recorded_weight f)

pub edits_grow : (e f : Ed) → Edits e f → recorded_weight e ≤ recorded_weight f
edits_grow e f x =
    let c : changes_weight f.command.changes ≡ changes_weight x.recent + changes_weight e.command.changes = ap changes_weight x.changes ∙ changes_weight_append x.recent e.command.changes in
    omega (arith, applies_weight x.recent e.text f.text x.applied, ap units_weight x.undo)

pub no_edit : (e : Ed) → Edits e e
no_edit e =
    record { recent = []; applied = refl; changes = refl; undo = refl; redo = refl; keys = refl; began = refl; last_keys = refl; register = omega arith }

pub edits_then : (e f g : Ed) → Edits e f → Edits f g → Edits e g
edits_then e f g x y =
    record {
      recent = y.recent ++ x.recent;
      applied = then y.recent x.recent e.text f.text g.text y.applied x.applied;
      changes = y.changes ∙ ap {B = List Change} (λ cs. y.recent ++ cs) x.changes ∙ sym (append_assoc y.recent x.recent e.command.changes);
      undo = y.undo ∙ x.undo;
      redo = y.redo ∙ x.redo;
      keys = y.keys ∙ x.keys;
      began = y.began ∙ x.began;
      last_keys = y.last_keys ∙ x.last_keys;
      register = omega (arith, edits_grow f g y, x.register, y.register);
    }

-- The steps.

-- where the cursor is, whether bytes are inserted and what is pending is no part of that
placed_edits : (e f : Ed) (a : ℕ) (b : Bool) (p : Pending) → Edits e f → Edits e (with_pending (with_inserting (with_cursor f a) b) p)
placed_edits e f a b p x =
    record {
      recent = x.recent;
      applied = x.applied;
      changes = x.changes;
      undo = x.undo;
      redo = x.redo;
      keys = x.keys;
      began = x.began;
      last_keys = x.last_keys;
      register = x.register;
    }

pub moved_edits : (e f : Ed) (a : ℕ) → Edits e f → Edits e (with_cursor f a)
moved_edits e f a x = placed_edits e f a f.inserting f.command.pending x

pub start_insert_edits : (e f : Ed) → Edits e f → Edits e (start_insert f)
unfolding start_insert
start_insert_edits e f x = placed_edits e f f.cursor true no_prefix x

pub yanked_edits : (e : Ed) (r : Region) → Edits e (yanked e r)
unfolding yanked
yanked_edits e r =
    record {
      recent = [];
      applied = refl;
      changes = refl;
      undo = refl;
      redo = refl;
      keys = refl;
      began = refl;
      last_keys = refl;
      register = simp (length-take, length-drop) (omega arith);
    }

module _ (e : Ed) (a b : ℕ) (new : Text) (to : ℕ) (order : a ≤ b) (within : a ≤ length e.text) where
  changed_edits : Edits e (with_cursor (with_changes (with_text e (replaced e.text a b new)) (record { place = a; old = part e.text a b; new = new } ∷ e.command.changes)) to)
  changed_edits =
      record {
        recent = record { place = a; old = part e.text a b; new = new } ∷ [];
        applied = replacing e.text new a b order within;
        changes = refl;
        undo = refl;
        redo = refl;
        keys = refl;
        began = refl;
        last_keys = refl;
        register = omega arith;
      }

  pub edit_edits : Edits e (edit e a b new to)
  unfolding edit
  edit_edits =
      cond_both (eqb (length (part e.text a b)) 0 && eqb (length new) 0) (with_cursor e to) _ (Edits e) (λ _. moved_edits e e to (no_edit e)) (λ _. changed_edits)
