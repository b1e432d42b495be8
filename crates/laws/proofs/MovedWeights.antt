-- What editors weigh on the way of u and control R: units go from one list to the other, and the text grows by no more than they weigh.
use Rattle.std.proofs.Common.{◌≡◌, ℕ, suc, ◌+◌, ◌-◌, ◌≤◌, false, eqb, List, [], ◌∷◌, ◌++◌, reverse, length, refl, ap, ◌∙◌, arith, length-append}
use mathlib.Core.List.{reverse-cons}
use Rattle.std.proofs.lemmas.Bool.{cond_both, eqb-true}
use Rattle.std.proofs.lemmas.List.{nil_from_length}
use Rattle.spec.specs.Text.{Text}
use Rattle.spec.specs.Motions.{times, or_one}
use Rattle.spec.specs.Keys.{go_back, go_forth}
use Rattle.spec.specs.Editor.{UndoUnit, Ed}
use Rattle.spec.specs.History.{finish, cancel, undo_once, redo_once}
use Rattle.spec.specs.Commands.{run_action, undo_by, redo_by}
use Rattle.spec.specs.Dispatch.{noted, scrolled, key}
use Rattle.spec.specs.Promises.{changes_weight, units_weight, weight}
use Rattle.spec.specs.HistoryLaws.{unit_changes, Undone, Runs, Moved, undoing, redoing, BetweenIsBounded}
use Rattle.laws.proofs.Weights.{changes_weight_append, unmade_weight, remade_weight}
use Rattle.laws.proofs.TextMotions.{times_keeps, times_same}
use Rattle.laws.proofs.HistoryOutcomes.{Within}
use Rattle.laws.proofs.KeyOutcomes.{noted_within, noted_idle}
use Rattle.laws.proofs.Histories.{Settled, undo_none, redo_none, undo_settled, redo_settled}
use Rattle.laws.proofs.Sound.{Sound, Stays, undo_stays, redo_stays, times_stays, noted_quiet, noted_settled}
use Rattle.laws.proofs.Accounts.{undo_times, redo_times}
use Rattle.laws.proofs.UndoKeys.{finished_same}
use Rattle.laws.proofs.KeysSound.{some_sound}
use Rattle.laws.proofs.Passing.{passed_between}
use Rattle.laws.proofs.OnTheWay.{runs_typed, runs_key, times_split}

units_weight_append : (us vs : List UndoUnit) → units_weight (us ++ vs) ≡ units_weight us + units_weight vs
units_weight_append [] vs = omega arith
units_weight_append (u ∷ us) vs = rw (units_weight_append us vs) (omega arith)

units_weight_reverse : (us : List UndoUnit) → units_weight (reverse us) ≡ units_weight us
units_weight_reverse [] = refl
units_weight_reverse (u ∷ us) = rw (reverse-cons u us, units_weight_append (reverse us) (u ∷ []), units_weight_reverse us) (omega arith)

unit_changes_weight : (us : List UndoUnit) → changes_weight (unit_changes us) ≤ units_weight us
unit_changes_weight [] = omega arith
unit_changes_weight (u ∷ us) = omega (arith, changes_weight_append u.changes (unit_changes us), unit_changes_weight us)

-- what units weigh that are undone: they were among undo, are among redo, and alter the text's length by no more
record Weighed (e f : Ed) (w : ℕ) : Type 0 where
  undo : units_weight e.undo ≡ w + units_weight f.undo
  redo : units_weight f.redo ≡ w + units_weight e.redo
  undone : length f.text ≤ length e.text + w
  redone : length e.text ≤ length f.text + w

weighed : (e f : Ed) (x : Undone e f) → Weighed e f (units_weight x.units)
weighed e f x =
    record {
      undo = ap units_weight x.undo ∙ units_weight_append x.units f.undo;
      redo = ap units_weight x.redo ∙ units_weight_append (reverse x.units) e.redo ∙ ap (λ n. n + units_weight e.redo) (units_weight_reverse x.units);
      undone = omega (arith, ap length x.unmade, unmade_weight (unit_changes x.units) e.text, unit_changes_weight x.units);
      redone = omega (arith, ap length x.back, remade_weight (unit_changes x.units) f.text, unit_changes_weight x.units);
    }

-- on the way from e over f to g, nothing else changes
stays_weight : (e f : Ed) → e.command.changes ≡ [] → Stays e f → weight f + (length e.text + (units_weight e.undo + units_weight e.redo)) ≡ weight e + (length f.text + (units_weight f.undo + units_weight f.redo))
stays_weight e f q x =
    omega (arith, ap changes_weight q, ap changes_weight x.changes, ap length x.keys, ap length x.last_keys, ap (λ r. length r.bytes) x.register)

-- Units undone, or redone, with more to come.

module _ (s : Text) (e : Ed) (h : Settled s e) (q : e.command.changes ≡ []) (w : Within e) (j n : ℕ) (l : j ≤ n) where
  undo_on_way : weight (times j undo_once e) ≤ weight e + units_weight (times n undo_once e).redo
  undo_on_way =
      let f : Ed = times j undo_once e in
      let x : Undone e f = undo_times s j e h in
      let y : Undone f (times (n - j) undo_once f) = undo_times s (n - j) f (times_keeps (Settled s) undo_once (undo_settled s) j e h) in
      rw (times_split j n undo_once e l) (omega (arith, weighed e f x, weighed f _ y, stays_weight e f q (times_stays undo_once undo_stays j e w q)))

  redo_on_way : weight (times j redo_once e) ≤ weight e + units_weight (times n redo_once e).undo
  redo_on_way =
      let f : Ed = times j redo_once e in
      let x : Undone f e = redo_times s j e h in
      let y : Undone (times (n - j) redo_once f) f = redo_times s (n - j) f (times_keeps (Settled s) redo_once (redo_settled s) j e h) in
      rw (times_split j n redo_once e l) (omega (arith, weighed f e x, weighed _ f y, stays_weight e f q (times_stays redo_once redo_stays j e w q)))

module _ (s : Text) (e : Ed) (h : Settled s e) (q : e.command.changes ≡ []) (w : Within e) (j n : ℕ) (l : j ≤ n) where
  undo_bound : weight (times j undo_once e) ≤ weight e + weight (scrolled (undo_by e n))
  unfolding undo_by
  undo_bound =
      cond_both (eqb (length e.undo) 0) (cancel e) (finish (times n undo_once e)) (λ g. weight (times j undo_once e) ≤ weight e + weight (scrolled g)) (λ z. rw (times_same undo_once e (undo_none e (nil_from_length e.undo (eqb-true _ 0 z))) j) (omega arith)) (λ _. omega (arith, undo_on_way s e h q w j n l, ap units_weight (finished_same (times n undo_once e) (times_stays undo_once undo_stays n e w q).changes).redo))

  redo_bound : weight (times j redo_once e) ≤ weight e + weight (scrolled (redo_by e n))
  unfolding redo_by
  redo_bound =
      cond_both (eqb (length e.redo) 0) (cancel e) (finish (times n redo_once e)) (λ g. weight (times j redo_once e) ≤ weight e + weight (scrolled g)) (λ z. rw (times_same redo_once e (redo_none e (nil_from_length e.redo (eqb-true _ 0 z))) j) (omega arith)) (λ _. omega (arith, redo_on_way s e h q w j n l, ap units_weight (finished_same (times n redo_once e) (times_stays redo_once redo_stays n e w q).changes).undo))

-- As keys.

noted_weight : (e : Ed) (k : ℕ) → weight (noted e k) ≡ suc (weight e)
unfolding noted
noted_weight e k = omega (arith, length-append e.command.keys (k ∷ []))

module _ (s : Text) (e : Ed) (k n j : ℕ) (h : Sound s e) (l : j ≤ or_one n) where
  undoing_bound : Runs e k n go_back → weight (times j undo_once (noted e k)) ≤ suc (weight e + weight (key e k))
  unfolding run_action
  undoing_bound r =
      let i : e.inserting ≡ false = r.not_inserting in
      let b : weight (times j undo_once (noted e k)) ≤ weight (noted e k) + weight (scrolled (undo_by (noted e k) (or_one n))) = undo_bound s (noted e k) (noted_settled s e k h (noted_idle e k i)) (noted_quiet s e k h (noted_idle e k i)) (noted_within e k h.within) j (or_one n) l in
      rw (runs_key e k n go_back r, runs_typed e k n go_back r) (omega (arith, b, noted_weight e k))

  redoing_bound : Runs e k n go_forth → weight (times j redo_once (noted e k)) ≤ suc (weight e + weight (key e k))
  unfolding run_action
  redoing_bound r =
      let i : e.inserting ≡ false = r.not_inserting in
      let b : weight (times j redo_once (noted e k)) ≤ weight (noted e k) + weight (scrolled (redo_by (noted e k) (or_one n))) = redo_bound s (noted e k) (noted_settled s e k h (noted_idle e k i)) (noted_quiet s e k h (noted_idle e k i)) (noted_within e k h.within) j (or_one n) l in
      rw (runs_key e k n go_forth r, runs_typed e k n go_forth r) (omega (arith, b, noted_weight e k))

pub moved_bound : (s : Text) (e : Ed) (k : ℕ) (f : Ed) → Sound s e → Moved e k f → weight f ≤ suc (weight e + weight (key e k))
moved_bound s e k f h (undoing n j r l) = undoing_bound s e k n j h l r
moved_bound s e k f h (redoing n j r l) = redoing_bound s e k n j h l r

pub between_is_bounded : BetweenIsBounded
between_is_bounded =
    record { passed = λ e f k r p. let h = some_sound r in passed_between h.0 e k f h.1 p; moved = λ e f k r p. let h = some_sound r in moved_bound h.0 e k f h.1 p }
