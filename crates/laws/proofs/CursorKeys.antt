-- Every key leaves the cursor where it may stand, and so the cursor always stands.
use Rattle.std.proofs.Common.{ℕ, eqb, List, [], ◌∷◌, length, sym, ◌∙◌, arith}
use Rattle.std.proofs.lemmas.Bool.{cond_both, true≢false}
use Rattle.spec.specs.Text.{Text, line_start, skip_back}
use Rattle.spec.specs.Motions.{or_one}
use Rattle.spec.specs.Editor.{Ed, with_pending, initial}
use Rattle.spec.specs.History.{finish_in_column, cancel, undo_once, redo_once}
use Rattle.spec.specs.Dispatch.{noted, typed_key, replay, repeat_last, repeats, scrolled, key}
use Rattle.spec.specs.Promises.{first, next, Stands, AlwaysStands}
use Rattle.laws.proofs.Standing.{line_start_stands}
use Rattle.laws.proofs.TextMotions.{times_keeps}
use Rattle.laws.proofs.Dispatching.{repeats_outside}
use Rattle.laws.proofs.Cursors.{Rests, rests_stands, stands_rests, finish_stands, undo_once_rests, redo_once_rests}
use Rattle.laws.proofs.Phases.{Next}
use Rattle.laws.proofs.HistoryOutcomes.{closed, Outcome, waits, types, refuses, ends, undoes, redoes}
use Rattle.laws.proofs.KeyOutcomes.{typed_keys}

closed_stands : (e : Ed) (c : ℕ) → Rests e → Stands (closed e c)
closed_stands e c h = record { within = (finish_stands e h).within; on_byte = (finish_stands e h).on_byte }

outcome_stands : (e : Ed) {x : Next} {f : Ed} → Stands e → Outcome e x f → Stands f
outcome_stands e s (waits q i) = rests_stands (with_pending e q) (stands_rests e i.idle s)
outcome_stands e s (types x w i) = record { within = w; on_byte = λ o. absurd (true≢false (sym i ∙ o)) }
outcome_stands e s (refuses c i) = closed_stands e c (stands_rests e i.idle s)
outcome_stands e s (ends c x l) = closed_stands _ c (l.rests s)
outcome_stands e s (undoes n i) = finish_stands _ (times_keeps Rests undo_once undo_once_rests n e (stands_rests e i.idle s))
outcome_stands e s (redoes n i) = finish_stands _ (times_keeps Rests redo_once redo_once_rests n e (stands_rests e i.idle s))

pub typed_key_stands : (e : Ed) (k : ℕ) → Stands e → Stands (typed_key e k)
unfolding noted
typed_key_stands e k h = outcome_stands (noted e k) (record { within = h.within; on_byte = h.on_byte }) (typed_keys e k h.within)

cancel_stands : (e : Ed) → Rests e → Stands (cancel e)
unfolding cancel finish_in_column
cancel_stands e h = closed_stands e e.kept_column h

replay_stands : (e : Ed) (ks : List ℕ) → Stands e → Stands (replay e ks)
unfolding replay
replay_stands e [] h = h
replay_stands e (k ∷ ks) h =
    cond_both (eqb (length (typed_key e k).command.keys) 0) _ _ Stands (λ _. typed_key_stands e k h) (λ _. replay_stands (typed_key e k) ks (typed_key_stands e k h))

repeat_last_stands : (e : Ed) (n : ℕ) → Rests e → Stands (repeat_last e n)
unfolding repeat_last
repeat_last_stands e n h = times_keeps Stands _ (λ f. replay_stands f e.last_keys) (or_one n) (cancel e) (cancel_stands e h)

pub scrolled_stands : (e : Ed) → Stands e → Stands (scrolled e)
unfolding scrolled
scrolled_stands e h = record { within = h.within; on_byte = h.on_byte }

pub key_stands : (e : Ed) (k : ℕ) → Stands e → Stands (key e k)
unfolding key
key_stands e k h =
    scrolled_stands _ (cond_both (repeats e k) _ _ Stands (λ q. repeat_last_stands e _ (stands_rests e (repeats_outside e k q) h)) (λ _. typed_key_stands e k h))

initial_stands : (t : Text) (r c : ℕ) → Stands (initial t r c)
unfolding initial line_start skip_back
initial_stands t r c = rests_stands (initial t r c) (line_start_stands t 0 (omega arith))

pub always_stands : AlwaysStands
always_stands e (first t r c) = initial_stands t r c
always_stands e (next {e = f} {k = k} w l) = key_stands f k (always_stands f w)
