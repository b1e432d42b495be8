-- . types the keys of a whole command: each time it is done to its end, or not at all, and the keys for . stay the same.
use Rattle.std.proofs.Common.{◌≡◌, ℕ, ◌<◌, false, cond, eqb, List, [], ◌∷◌, ◌++◌, length, sym, refl, ap, ◌∙◌, subst, append_assoc, append-nil, arith, length-append}
use Rattle.std.proofs.lemmas.Bool.{cond_both, eqb-true, eqb-false}
use Rattle.spec.specs.Text.{Text}
use Rattle.spec.specs.Motions.{times, or_one}
use Rattle.spec.specs.Editor.{Change, Ed}
use Rattle.spec.specs.History.{finish, finish_in_column, cancel}
use Rattle.spec.specs.Dispatch.{noted, typed_key, replay, repeat_last}
use Rattle.laws.proofs.TextMotions.{times_keeps}
use Rattle.laws.proofs.HistoryEdits.{Edits}
use Rattle.laws.proofs.Phases.{Phase, typing, waiting, phase, Next, goes_on, over, back, forth, next}
use Rattle.laws.proofs.HistoryOutcomes.{closed, Outcome, waits, types, refuses, ends, undoes, redoes}
use Rattle.laws.proofs.KeyOutcomes.{typed_keys}
use Rattle.laws.proofs.UndoBytes.{Onward, goes, is_over}
use Rattle.laws.proofs.Sound.{Sound, start, Leads, IfGoesOn, Complete, Repeatable, kept_keys, finish_keys, noted_keys, noted_quiet, typed_sound}
use Rattle.laws.proofs.KeysSound.{cancel_sound}
use Rattle.laws.proofs.Progress.{Progress, progress_none, progress_then, cancel_progress, typed_progress}

-- at a command's end
pub record Replayed (s : Text) (ks : List ℕ) (e : Ed) : Type 0 where
  pub sound : Sound s e
  pub keys : e.command.keys ≡ []
  pub last_keys : e.last_keys ≡ ks

-- with some of the keys typed and the rest to type
pub record Replaying (s : Text) (ks typed rest : List ℕ) (e : Ed) : Type 0 where
  pub sound : Sound s e
  pub parts : ks ≡ typed ++ rest
  pub keys : e.command.keys ≡ typed
  pub last_keys : e.last_keys ≡ ks
  pub complete : Complete (phase e) rest

pub data Stepped (s : Text) (ks typed rest : List ℕ) (e : Ed) : Type 0 where
  ended : Replayed s ks e → Stepped s ks typed rest e
  going : Replaying s ks typed rest e → Stepped s ks typed rest e

onward_complete : (x : Next) (P : Phase → Type 0) (Q : Type 0) → IfGoesOn x P Q → Onward x
onward_complete (goes_on p) P Q c = goes
onward_complete over P Q c = is_over
onward_complete back P Q c = absurd c
onward_complete forth P Q c = absurd c

noted_last_keys : (e : Ed) (k : ℕ) → (noted e k).last_keys ≡ e.last_keys
unfolding noted
noted_last_keys e k = refl

closed_keys : (e : Ed) (c : ℕ) → (closed e c).command.keys ≡ []
unfolding finish
closed_keys e c = refl

module _ (s : Text) (ks typed rest : List ℕ) (e : Ed) (k : ℕ) (r : Replaying s ks typed (k ∷ rest) e) where
  pub replaying_onward : Onward (next (phase e) k)
  replaying_onward = onward_complete (next (phase e) k) (λ q. Complete q rest) (rest ≡ []) r.complete

  pub replaying_progress : Progress e (typed_key e k)
  replaying_progress = typed_progress e k r.sound.within replaying_onward

  pub more : (noted e k).command.keys ≡ typed ++ (k ∷ [])
  more = noted_keys s e k r.sound ∙ ap {B = List ℕ} (λ js. js ++ (k ∷ [])) r.keys

  pub same : (noted e k).last_keys ≡ ks
  same = noted_last_keys e k ∙ r.last_keys

  pub parts_more : ks ≡ (typed ++ (k ∷ [])) ++ rest
  parts_more = r.parts ∙ sym (append_assoc typed (k ∷ []) rest)

  -- the command goes on
  goes_replaying : (f : Ed) (p : Phase) → Sound s f → f.command.keys ≡ (noted e k).command.keys → f.last_keys ≡ (noted e k).last_keys → phase f ≡ p → Complete p rest → Replaying s ks (typed ++ (k ∷ [])) rest f
  goes_replaying f p h j l q c =
      record { sound = h; parts = parts_more; keys = j ∙ more; last_keys = l ∙ same; complete = subst (λ x. Complete x rest) (sym q) c }

  -- it is over, as the whole of its keys is typed
  ends_keys : (f : Ed) → Edits (noted e k) f → rest ≡ [] → (finish f).last_keys ≡ ks
  ends_keys f x n = finish_keys f f.command.changes refl ∙ kept f.command.changes
    where
      kept : (cs : List Change) → kept_keys f cs ≡ ks
      kept [] = x.last_keys ∙ same
      kept (c ∷ cs) = x.keys ∙ more ∙ sym (parts_more ∙ ap {B = List ℕ} (λ js. (typed ++ (k ∷ [])) ++ js) n ∙ append-nil (typed ++ (k ∷ [])))

  outcome_stepped : {x : Next} {f : Ed} → Sound s f → IfGoesOn x (λ q. Complete q rest) (rest ≡ []) → Outcome (noted e k) x f → Stepped s ks (typed ++ (k ∷ [])) rest f
  outcome_stepped h c (waits q w) = going (goes_replaying _ (waiting q) h refl refl (ap (λ b. cond b typing (waiting q)) w.idle) c)
  outcome_stepped h c (types {f = f} x w i) =
      going (goes_replaying f typing h x.keys x.last_keys (ap (λ b. cond b typing (waiting f.command.pending)) i) c)
  outcome_stepped h c (refuses d w) =
      ended (record { sound = h; keys = closed_keys (noted e k) d; last_keys = finish_keys (noted e k) [] (noted_quiet s e k r.sound w.idle) ∙ same })
  outcome_stepped h c (ends {f = f} d x w) = ended (record { sound = h; keys = closed_keys f d; last_keys = ends_keys f x c })
  outcome_stepped h c (undoes n w) = absurd c
  outcome_stepped h c (redoes n w) = absurd c

  pub typed_stepped : Stepped s ks (typed ++ (k ∷ [])) rest (typed_key e k)
  typed_stepped = outcome_stepped (typed_sound s e k r.sound) r.complete (typed_keys e k r.sound.within)

-- The rest of a replay.

-- from one editor to another at a command's end
pub record Done (s : Text) (ks : List ℕ) (e f : Ed) : Type 0 where
  pub progress : Progress e f
  pub replayed : Replayed s ks f

pub done_then : (s : Text) (ks : List ℕ) (e f g : Ed) → Progress e f → Done s ks f g → Done s ks e g
done_then s ks e f g x y = record { progress = progress_then e f g x y.progress; replayed = y.replayed }

-- whether the command has keys says whether it goes on
open_keys : (typed : List ℕ) (k : ℕ) (e : Ed) → e.command.keys ≡ typed ++ (k ∷ []) → 0 < length e.command.keys
open_keys typed k e n = omega (arith, ap length n, length-append typed (k ∷ []))

module _ (s : Text) (ks : List ℕ) where
  pub stepped_ended : (typed rest : List ℕ) (k : ℕ) (e : Ed) → Stepped s ks (typed ++ (k ∷ [])) rest e → length e.command.keys ≡ 0 → Replayed s ks e
  stepped_ended typed rest k e (ended r) n = r
  stepped_ended typed rest k e (going r) n = absurd (omega (arith, open_keys typed k e r.keys))

  pub stepped_going : (typed rest : List ℕ) (k : ℕ) (e : Ed) → Stepped s ks (typed ++ (k ∷ [])) rest e → (length e.command.keys ≡ 0 → ⊥) → Replaying s ks (typed ++ (k ∷ [])) rest e
  stepped_going typed rest k e (ended r) n = absurd (n (ap length r.keys))
  stepped_going typed rest k e (going r) n = r

  pub replaying_done : (rest typed : List ℕ) (e : Ed) → Replaying s ks typed rest e → Done s ks e (replay e rest)
  unfolding replay
  replaying_done [] typed e r = absurd r.complete
  replaying_done (k ∷ rest) typed e r =
      let f : Ed = typed_key e k in
      let x : Progress e f = replaying_progress s ks typed rest e k r in
      let t : Stepped s ks (typed ++ (k ∷ [])) rest f = typed_stepped s ks typed rest e k r in
      cond_both (eqb (length f.command.keys) 0) f (replay f rest) (Done s ks e) (λ n. record { progress = x; replayed = stepped_ended typed rest k f t (eqb-true _ 0 n) }) (λ n. done_then s ks e f _ x (replaying_done rest (typed ++ (k ∷ [])) f (stepped_going typed rest k f t (eqb-false _ 0 n))))

  pub replay_begins : (k : ℕ) (rest : List ℕ) (e : Ed) → ks ≡ k ∷ rest → Replayed s ks e → Replaying s ks [] ks e
  replay_begins k rest e n r =
      let p : start ≡ phase e = subst (λ js. Leads start js (phase e)) r.keys r.sound.keys in
      let c : Complete start (k ∷ rest) = subst Repeatable (r.last_keys ∙ n) r.sound.last_keys in
      record { sound = r.sound; parts = refl; keys = r.keys; last_keys = r.last_keys; complete = subst (λ q. Complete q ks) p (subst (Complete start) (sym n) c) }

  replay_none : (e : Ed) → ks ≡ [] → replay e ks ≡ e
  unfolding replay
  replay_none e n = ap (replay e) n

  pub replay_done : (e : Ed) → Replayed s ks e → Done s ks e (replay e ks)
  replay_done e r = at ks refl
    where
      at : (js : List ℕ) → ks ≡ js → Done s ks e (replay e ks)
      at [] n = rw (replay_none e n) (record { progress = progress_none e; replayed = r })
      at (k ∷ js) n = replaying_done ks [] e (replay_begins k js e n r)

  pub replays_done : (n : ℕ) (e : Ed) → Replayed s ks e → Done s ks e (times n (λ f. replay f ks) e)
  replays_done n e r =
      times_keeps (Done s ks e) (λ f. replay f ks) (λ f d. done_then s ks e f (replay f ks) d.progress (replay_done f d.replayed)) n e (record { progress = progress_none e; replayed = r })

-- . as a key

module _ (s : Text) (e : Ed) (i : e.inserting ≡ false) (h : Sound s e) where
  cancelled_keys : ((cancel e).command.keys ≡ []) × ((cancel e).last_keys ≡ e.last_keys)
  unfolding cancel finish_in_column
  cancelled_keys = (closed_keys e e.kept_column, finish_keys e [] (h.quiet i))

  cancelled : Replayed s e.last_keys (cancel e)
  cancelled = record { sound = cancel_sound s e i h; keys = cancelled_keys.0; last_keys = cancelled_keys.1 }

  -- so far
  pub repeated_done : (n : ℕ) → Done s e.last_keys e (times n (λ f. replay f e.last_keys) (cancel e))
  repeated_done n = done_then s e.last_keys e (cancel e) _ (cancel_progress e) (replays_done s e.last_keys n (cancel e) cancelled)

  pub repeat_done : (n : ℕ) → Done s e.last_keys e (repeat_last e n)
  unfolding repeat_last
  repeat_done n = repeated_done (or_one n)
