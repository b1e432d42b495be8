-- Nothing changes the text that history doesn't know.
use Rattle.std.proofs.Common.{◌≡◌, ℕ, false, refl}
use Rattle.std.proofs.lemmas.Bool.{cond_both}
use Rattle.spec.specs.Text.{Text}
use Rattle.spec.specs.Motions.{times}
use Rattle.spec.specs.Editor.{Ed}
use Rattle.spec.specs.History.{finish, undo_once, redo_once}
use Rattle.spec.specs.Dispatch.{noted, typed_key, repeat_last, repeats, pending_count, scrolled, key}
use Rattle.spec.specs.HistoryLaws.{Accounted, made, undone, redone, OnlyChangesChange}
use Rattle.laws.proofs.Phases.{phase, Next, next}
use Rattle.laws.proofs.HistoryOutcomes.{Outcome, waits, types, refuses, ends, undoes, redoes}
use Rattle.laws.proofs.KeyOutcomes.{typed_keys}
use Rattle.laws.proofs.Sound.{Sound, Stays, undo_stays, redo_stays, times_stays, noted_quiet, noted_settled}
use Rattle.laws.proofs.Dispatching.{repeats_outside}
use Rattle.laws.proofs.KeysSound.{some_sound}
use Rattle.laws.proofs.UndoAll.{Same, same_back}
use Rattle.laws.proofs.UndoKeys.{finished_same, noted_same}
use Rattle.laws.proofs.UndoBytes.{Onward, goes, is_over, only_u, only_control_r}
use Rattle.laws.proofs.Accounts.{made_then, undo_times, redo_times, undone_same}
use Rattle.laws.proofs.Progress.{outcome_progress, noted_progress, scrolled_progress}
use Rattle.laws.proofs.Replays.{repeat_done}

module _ (s : Text) (e : Ed) (k : ℕ) (h : Sound s e) where
  onward_accounted : {x : Next} {f : Ed} → Onward x → Outcome (noted e k) x f → Accounted e k (scrolled f)
  onward_accounted o x =
      made (made_then e (noted e k) _ (noted_progress e k).made (made_then (noted e k) _ _ (outcome_progress (noted e k) o x).made (scrolled_progress _).made))

  moved_same : (f : Ed) → Stays (noted e k) f → Same f (scrolled (finish f))
  moved_same f x = same_back (scrolled (finish f)) f (finished_same f x.changes)

  outcome_accounted : {x : Next} {f : Ed} → x ≡ next (phase e) k → Outcome (noted e k) x f → Accounted e k (scrolled f)
  outcome_accounted n (waits q w) = onward_accounted goes (waits q w)
  outcome_accounted n (types x w i) = onward_accounted goes (types x w i)
  outcome_accounted n (refuses c w) = onward_accounted is_over (refuses c w)
  outcome_accounted n (ends c x w) = onward_accounted is_over (ends c x w)
  outcome_accounted n (undoes m w) =
      let f : Ed = times m undo_once (noted e k) in
      let x : Stays (noted e k) f = times_stays undo_once undo_stays m (noted e k) w.within (noted_quiet s e k h w.idle) in
      undone (only_u (phase e) k n) (undone_same (noted e k) f e _ (noted_same e k) (moved_same f x) (undo_times s m (noted e k) (noted_settled s e k h w.idle)))
  outcome_accounted n (redoes m w) =
      let f : Ed = times m redo_once (noted e k) in
      let x : Stays (noted e k) f = times_stays redo_once redo_stays m (noted e k) w.within (noted_quiet s e k h w.idle) in
      redone (only_control_r (phase e) k n) (undone_same f (noted e k) _ e (moved_same f x) (noted_same e k) (redo_times s m (noted e k) (noted_settled s e k h w.idle)))

  repeat_accounted : e.inserting ≡ false → (n : ℕ) → Accounted e k (scrolled (repeat_last e n))
  repeat_accounted i n = made (made_then e (repeat_last e n) _ (repeat_done s e i h n).progress.made (scrolled_progress _).made)

  key_accounted : Accounted e k (key e k)
  unfolding key
  key_accounted =
      cond_both (repeats e k) (repeat_last e (pending_count e.command.pending)) (typed_key e k) (λ f. Accounted e k (scrolled f)) (λ r. repeat_accounted (repeats_outside e k r) _) (λ _. outcome_accounted refl (typed_keys e k h.within))

pub only_changes_change : OnlyChangesChange
only_changes_change e k r = let h = some_sound r in key_accounted h.0 e k h.1
