-- A pending command, or one that can't be done, leaves all but itself as it is.
use Rattle.std.proofs.Common.{◌≡◌, ℕ, ◌+◌, ◌-◌, ◌<◌, ◌≤◌, Bool, true, false, cond, not, ◌&&◌, eqb, List, [], sym, refl, ap, ◌∙◌, subst, subst₂, ⊎_elim, arith}
use mathlib.Core.Option.{some, none}
use Rattle.std.proofs.lemmas.List.{nil_from_length}
use Rattle.std.proofs.lemmas.Bool.{true≢false, cases_Bool, and_parts, eqb-true}
use Rattle.std.proofs.lemmas.Bool.Decides.{nat_tests}
use Rattle.spec.specs.Bytes.{ascii, escape}
use Rattle.spec.specs.Text.{column, line_of}
use Rattle.spec.specs.Motions.{to_line_start, or_one}
use Rattle.spec.specs.Keys.{byte_to_find, byte_to_stop_before, byte_to_write, second_g, Key, digit, motion, operator, awaiter, action, repeat, no_command, key_of, Prefix, counting, operating, Pending, ready, awaiting, longer_count, has_count}
use Rattle.spec.specs.Editor.{Ed, Change, OpenCommand, with_inserting, with_changes, with_command, with_pending, no_command_yet}
use Rattle.spec.specs.History.{recorded, finish, finish_in_column, cancel}
use Rattle.spec.specs.Commands.{run_motion}
use Rattle.spec.specs.Dispatch.{digit_key, operator_key, awaiter_key, command_key, normal_key, noted, typed_key, replay, repeat_last, repeats, pending_count, follow, scrolled, key}
use Rattle.spec.specs.Promises.{Reachable, Sees}
use Rattle.spec.specs.Laws.{continued, goes_on_with, cannot_command, can_not, OnlyCommand, GoesOn, IsOver, PendingIsHarmless}
use Rattle.laws.proofs.TextMotions.{times_keeps, Each}
use Rattle.laws.proofs.Dispatching.{repeats_outside, key_repeated, key_typed, typed_outside}
use Rattle.laws.proofs.Phases.{Next}
use Rattle.laws.proofs.HistoryOutcomes.{Outcome, waits, types, refuses, ends, undoes, redoes}
use Rattle.laws.proofs.KeyOutcomes.{typed_keys}
use Rattle.laws.proofs.KeysSound.{some_sound}
use Rattle.laws.proofs.Replays.{repeat_done}
use Rattle.laws.proofs.Cannot.{can_not_cancels, cannot_escape}
use Rattle.laws.proofs.Sight.{in_sight}

-- The view.

-- what is seen stays where it is
pub follow_same : (a begin many : ℕ) → begin ≤ a → a < begin + many → follow a begin many ≡ begin
unfolding follow
follow_same a begin many h k = grind (arith, nat_tests)

pub scrolled_same : (e : Ed) → Sees e → scrolled e ≡ e
unfolding scrolled
scrolled_same e s = rw (follow_same (line_of e.text e.cursor) e.view.top (e.view.rows - 1) s.below_top s.above_status, follow_same (column e.text e.cursor) e.view.left e.view.columns s.right_of_left s.within_width)

-- the same editor but for the command that is going on
scrolled_only_command : (e : Ed) (c : OpenCommand) → Reachable e → OnlyCommand e (scrolled (with_command e c))
unfolding scrolled
scrolled_only_command e c w = record { same = refl; view = λ r l. ap (λ (f : Ed). f.view) (scrolled_same e (in_sight e w r l)) }

only_command : (e f : Ed) (c : OpenCommand) → Reachable e → f ≡ with_command e c → OnlyCommand e (scrolled f)
only_command e f c w q = subst (λ (x : Ed). OnlyCommand e (scrolled x)) (sym q) (scrolled_only_command e c w)

-- Repeats, and keys that are none.

-- a repeat is typed as `.`, and only where a command may begin
repeats_key : (b : Bool) (k : ℕ) (d : Bool) → (not b && (eqb k (ascii ".") && d)) ≡ true → (k ≡ ascii ".") × (d ≡ true)
repeats_key b k d h =
    let r : (eqb k (ascii ".") && d) ≡ true = (and_parts (not b) (eqb k (ascii ".") && d) h).1 in
    (eqb-true k (ascii ".") (and_parts (eqb k (ascii ".")) d r).0, (and_parts (eqb k (ascii ".")) d r).1)

repeats_by : (e : Ed) (p : Pending) (k : ℕ) → repeats (with_pending e p) k ≡ true → goes_on_with p k ≡ none
unfolding repeats key_of
repeats_by e (ready (counting n)) k h =
    subst (λ j. goes_on_with (ready (counting n)) j ≡ none) (sym (repeats_key e.inserting k true h).0) refl
repeats_by e (ready (operating o n m)) k h = absurd (true≢false (sym (repeats_key e.inserting k false h).1))
repeats_by e (awaiting a p) k h = refl

repeats_ends : (e : Ed) (k : ℕ) → repeats e k ≡ true → goes_on_with e.command.pending k ≡ none
repeats_ends e k h = repeats_by e e.command.pending k h

nothing_to_repeat_by : (e : Ed) (p : Pending) (k : ℕ) → repeats (with_pending e p) k ≡ true → can_not (with_pending e p) k ≡ true → e.last_keys ≡ []
unfolding repeats can_not cannot_command key_of
nothing_to_repeat_by e (ready (counting n)) k h c =
    nil_from_length e.last_keys (eqb-true _ _ (subst (λ j. can_not (with_pending e (ready (counting n))) j ≡ true) (repeats_key e.inserting k true h).0 c))
nothing_to_repeat_by e (ready (operating o n m)) k h c = absurd (true≢false (sym (repeats_key e.inserting k false h).1))
nothing_to_repeat_by e (awaiting a p) k h c = absurd (true≢false (sym (repeats_key e.inserting k false h).1))

nothing_to_repeat : (e : Ed) (k : ℕ) → repeats e k ≡ true → can_not e k ≡ true → e.last_keys ≡ []
nothing_to_repeat e k h c = nothing_to_repeat_by e e.command.pending k h c

repeat_of_nothing : (e : Ed) (n : ℕ) → e.last_keys ≡ [] → repeat_last e n ≡ cancel e
unfolding repeat_last replay
repeat_of_nothing e n q = times_keeps (λ f. f ≡ cancel e) (λ f. replay f e.last_keys) (λ f h. ap (replay f) q ∙ h) (or_one n) (cancel e) refl

-- A command that is going on after a key.

some≢none : {p : Pending} → some p ≡ none → ⊥
some≢none q = let z : ◌≡◌ {A = ℕ} 0 1 = cc in omega arith

Unfinished : Ed → Ed → Type 0
Unfinished e f = f.inserting ≡ false → (f.command.keys ≡ [] → ⊥) → OnlyCommand e f

outcome_unfinished : (e : Ed) (k : ℕ) {x : Next} {f : Ed} → Reachable e → Outcome (noted e k) x f → Unfinished e (scrolled f)
unfolding Unfinished noted scrolled finish
outcome_unfinished e k w (waits q i) o n = only_command e (with_pending (noted e k) q) _ w refl
outcome_unfinished e k w (types x v i) o n = absurd (true≢false (sym i ∙ o))
outcome_unfinished e k w (refuses c i) o n = absurd (n refl)
outcome_unfinished e k w (ends c x v) o n = absurd (n refl)
outcome_unfinished e k w (undoes m i) o n = absurd (n refl)
outcome_unfinished e k w (redoes m i) o n = absurd (n refl)

unfinished : (e : Ed) (k : ℕ) → Reachable e → Unfinished e (key e k)
unfolding Unfinished scrolled
unfinished e k w = ⊎_elim repeated not_repeated (cases_Bool (repeats e k))
  where
    repeated : repeats e k ≡ true → Unfinished e (key e k)
    repeated q =
        let h = some_sound w in
        subst (Unfinished e) (sym (key_repeated e k q)) (λ o n. absurd (n (repeat_done h.0 e (repeats_outside e k q) h.1 (pending_count e.command.pending)).replayed.keys))

    not_repeated : repeats e k ≡ false → Unfinished e (key e k)
    not_repeated q = subst (Unfinished e) (sym (key_typed e k q)) (outcome_unfinished e k w (typed_keys e k (some_sound w).1.within))

-- keys that go on with a command
continues : (e : Ed) (p : Prefix) (k : Key) → Each (λ q. command_key e p k ≡ with_pending e q) (continued p k)
unfolding command_key digit_key operator_key awaiter_key
continues e p (digit d) = by (eqb d 0 && not (has_count p))
  where
    by : (b : Bool) → Each (λ q. cond b (run_motion e p to_line_start) (with_pending e (ready (longer_count p d))) ≡ with_pending e q) (cond b none (some (ready (longer_count p d))))
    by true = tt
    by false = refl
continues e p (motion m) = tt
continues e (counting n) (operator o) = refl
continues e (operating q n m) (operator o) = tt
continues e p (awaiter byte_to_find) = refl
continues e p (awaiter byte_to_stop_before) = refl
continues e p (awaiter second_g) = refl
continues e (counting n) (awaiter byte_to_write) = refl
continues e (operating o n m) (awaiter byte_to_write) = tt
continues e (counting n) (action a) = tt
continues e (operating o n m) (action a) = tt
continues e p repeat = tt
continues e p no_command = tt

continues_by : (e : Ed) (p : Pending) (k : ℕ) → Each (λ q. normal_key (with_pending e p) k ≡ with_pending e q) (goes_on_with p k)
unfolding normal_key
continues_by e (ready p) k = continues (with_pending e (ready p)) p (key_of k)
continues_by e (awaiting a p) k = tt

goes_on : (e : Ed) (k : ℕ) (p : Pending) → Reachable e → e.inserting ≡ false → goes_on_with e.command.pending k ≡ some p → GoesOn e k p
unfolding noted scrolled
goes_on e k p w i g = record { only_command = subst (OnlyCommand e) (sym is) (only_command e (typed_key e k) _ w typed); keys = ap (λ (f : Ed). f.command.keys) is ∙ ap (λ (f : Ed). f.command.keys) typed; pending = ap (λ (f : Ed). f.command.pending) is ∙ ap (λ (f : Ed). f.command.pending) typed }
  where
    not_repeated : repeats e k ≡ false
    not_repeated = ⊎_elim (λ q. absurd (some≢none (sym g ∙ repeats_ends e k q))) (λ q. q) (cases_Bool (repeats e k))

    is : key e k ≡ scrolled (typed_key e k)
    is = key_typed e k not_repeated

    typed : typed_key e k ≡ with_pending (noted e k) p
    typed = typed_outside e k i ∙ subst (Each (λ q. normal_key (noted e k) k ≡ with_pending (noted e k) q)) g (continues_by (noted e k) e.command.pending k)

-- a command can't be done where none of its changes was made: all else stays as it is
cancel_is : (e : Ed) → e.inserting ≡ false → e.command.changes ≡ [] → cancel e ≡ with_command e (no_command_yet e.cursor)
unfolding cancel finish_in_column finish recorded
cancel_is e o c =
    let P : Bool → List Change → Type 0 = λ b cs. cancel (with_inserting (with_changes e cs) b) ≡ with_command (with_inserting e b) (no_command_yet e.cursor) in
    subst₂ P (sym o) (sym c) refl

over : (e : Ed) (k : ℕ) (f : Ed) → Reachable e → key e k ≡ scrolled f → f ≡ with_command e (no_command_yet e.cursor) → IsOver e k
unfolding scrolled
over e k f w is c = record { only_command = subst (OnlyCommand e) (sym is) (only_command e f _ w c); command = ap (λ (x : Ed). x.command) is ∙ ap (λ (x : Ed). x.command) c }

not_done : (e : Ed) (k : ℕ) → Reachable e → e.inserting ≡ false → can_not e k ≡ true → IsOver e k
unfolding noted
not_done e k w i c = ⊎_elim repeated not_repeated (cases_Bool (repeats e k))
  where
    closed : e.command.changes ≡ []
    closed = (some_sound w).1.quiet i

    repeated : repeats e k ≡ true → IsOver e k
    repeated q = over e k _ w (key_repeated e k q) (repeat_of_nothing e _ (nothing_to_repeat e k q c) ∙ cancel_is e i closed)

    not_repeated : repeats e k ≡ false → IsOver e k
    not_repeated q = over e k _ w (key_typed e k q) (typed_outside e k i ∙ can_not_cancels e k c ∙ cancel_is (noted e k) i closed)

pub pending_is_harmless : PendingIsHarmless
unfolding Unfinished
pending_is_harmless e w i = record { unfinished = λ k. unfinished e k w; goes_on = λ k p. goes_on e k p w i; not_done = λ k. not_done e k w i; escaped = not_done e escape w i (cannot_escape e) }
