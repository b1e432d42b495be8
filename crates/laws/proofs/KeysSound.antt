-- Every editor that keys lead to is sound.
use Rattle.std.proofs.Common.{◌≡◌, ℕ, false, eqb, List, [], ◌∷◌, length, refl, arith}
use Rattle.std.proofs.lemmas.Bool.{cond_both}
use Rattle.spec.specs.Text.{Text}
use Rattle.spec.specs.Motions.{or_one}
use Rattle.spec.specs.Editor.{Ed, initial}
use Rattle.spec.specs.History.{finish_in_column, cancel}
use Rattle.spec.specs.Dispatch.{typed_key, replay, repeat_last, repeats, pending_count, scrolled, key}
use Rattle.spec.specs.Promises.{Reachable, ReachableFrom}
use Rattle.laws.proofs.TextMotions.{times_keeps}
use Rattle.laws.proofs.Dispatching.{repeats_outside}
use Rattle.laws.proofs.Sound.{Sound, finish_keys, closed_sound, typed_sound}

pub initial_sound : (t : Text) (r c : ℕ) → Sound t (initial t r c)
unfolding initial
initial_sound t r c =
    record { within = omega arith; quiet = λ _. refl; history = record { start = t; undo = refl; changes = refl; redo = tt }; keys = refl; last_keys = tt }

pub scrolled_sound : (s : Text) (e : Ed) → Sound s e → Sound s (scrolled e)
unfolding scrolled
scrolled_sound s e h =
    record {
      within = h.within;
      quiet = h.quiet;
      history = record { start = h.history.start; undo = h.history.undo; changes = h.history.changes; redo = h.history.redo };
      keys = h.keys;
      last_keys = h.last_keys;
    }

pub cancel_sound : (s : Text) (e : Ed) → e.inserting ≡ false → Sound s e → Sound s (cancel e)
unfolding cancel finish_in_column
cancel_sound s e i h =
    closed_sound s e e.kept_column h.within h.history (rw (finish_keys e [] (h.quiet i)) h.last_keys)

pub replay_sound : (s : Text) (ks : List ℕ) (e : Ed) → Sound s e → Sound s (replay e ks)
unfolding replay
replay_sound s [] e h = h
replay_sound s (k ∷ ks) e h =
    cond_both (eqb (length (typed_key e k).command.keys) 0) (typed_key e k) (replay (typed_key e k) ks) (Sound s) (λ _. typed_sound s e k h) (λ _. replay_sound s ks (typed_key e k) (typed_sound s e k h))

repeat_sound : (s : Text) (e : Ed) (n : ℕ) → e.inserting ≡ false → Sound s e → Sound s (repeat_last e n)
unfolding repeat_last
repeat_sound s e n i h = times_keeps (Sound s) (λ f. replay f e.last_keys) (replay_sound s e.last_keys) (or_one n) (cancel e) (cancel_sound s e i h)

pub key_sound : (s : Text) (e : Ed) (k : ℕ) → Sound s e → Sound s (key e k)
unfolding key
key_sound s e k h =
    scrolled_sound s _ (cond_both (repeats e k) (repeat_last e (pending_count e.command.pending)) (typed_key e k) (Sound s) (λ r. repeat_sound s e _ (repeats_outside e k r) h) (λ _. typed_sound s e k h))

pub reachable_sound : (t : Text) (r c : ℕ) {e : Ed} → ReachableFrom t r c e → Sound t e
reachable_sound t r c ReachableFrom.first = initial_sound t r c
reachable_sound t r c (ReachableFrom.next w l) = key_sound t _ _ (reachable_sound t r c w)

-- from some text
pub some_sound : {e : Ed} → Reachable e → (t : Text) × Sound t e
some_sound (Reachable.first t r c) = (t, initial_sound t r c)
some_sound (Reachable.next w l) = let h = some_sound w in (h.0, key_sound h.0 _ _ h.1)
