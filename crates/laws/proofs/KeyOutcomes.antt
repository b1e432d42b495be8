-- What becomes of the editor at a key that isn't a repeat.
use Rattle.std.proofs.Common.{◌≡◌, ℕ, Bool, true, false, cond, not, ◌&&◌, eqb, refl}
use Rattle.spec.specs.Bytes.{ascii, escape}
use Rattle.spec.specs.Motions.{to_line_start, to_line_or_first, find, till, or_one}
use Rattle.spec.specs.Keys.{Operator, same_operator, Argument, byte_to_find, byte_to_stop_before, byte_to_write, second_g, Key, digit, motion, operator, awaiter, action, repeat, no_command, key_of, Prefix, counting, operating, Pending, ready, awaiting, longer_count, has_count, total_count}
use Rattle.spec.specs.Editor.{Ed}
use Rattle.spec.specs.History.{cancel}
use Rattle.spec.specs.Commands.{insert_key}
use Rattle.spec.specs.Dispatch.{argument_key, digit_key, operator_key, awaiter_key, command_key, normal_key, noted, typed_key}
use Rattle.laws.proofs.TextMotions.{or_one_positive}
use Rattle.laws.proofs.Phases.{typing, waiting, phase, goes_on, over, behind_operator, behind_motion, behind_argument, behind_key, next}
use Rattle.laws.proofs.HistoryOutcomes.{Within, Idle, Outcome, waits, cancels, either, by_test, runs_motion, operates_lines}
use Rattle.laws.proofs.Actions.{writes_over, runs_action, inserts_key}

argument_keys : (e : Ed) (a : Argument) (p : Prefix) (k : ℕ) → Idle e → Outcome e (behind_argument a p) (argument_key e a p k)
unfolding argument_key
argument_keys e byte_to_find p k w = runs_motion e p (find k) w
argument_keys e byte_to_stop_before p k w = runs_motion e p (till k) w
argument_keys e byte_to_write p k w = writes_over e (or_one (total_count p)) k (or_one_positive (total_count p)) w
argument_keys e second_g p k w = either e (behind_motion p) (eqb k (ascii "g")) _ _ (λ _. runs_motion e p to_line_or_first w) (λ _. cancels e _ w)

digit_keys : (e : Ed) (p : Prefix) (d : ℕ) → Idle e → Outcome e (behind_key p (digit d)) (digit_key e p d)
unfolding digit_key
digit_keys e p d w =
    by_test e (eqb d 0 && not (has_count p)) (behind_motion p) (goes_on (waiting (ready (longer_count p d)))) _ _ (runs_motion e p to_line_start w) (waits _ w)

operator_keys : (e : Ed) (p : Prefix) (o : Operator) → Idle e → Outcome e (behind_key p (operator o)) (operator_key e p o)
unfolding operator_key
operator_keys e (counting n) o w = waits _ w
operator_keys e (operating q n m) o w =
    either e (behind_operator o) (same_operator q o) _ _ (λ _. operates_lines o e _ w) (λ _. cancels e _ w)

awaiter_keys : (e : Ed) (p : Prefix) (a : Argument) → Idle e → Outcome e (behind_key p (awaiter a)) (awaiter_key e p a)
unfolding awaiter_key
awaiter_keys e p byte_to_find w = waits _ w
awaiter_keys e p byte_to_stop_before w = waits _ w
awaiter_keys e p second_g w = waits _ w
awaiter_keys e (counting n) byte_to_write w = waits _ w
awaiter_keys e (operating o n m) byte_to_write w = cancels e _ w

command_keys : (e : Ed) (p : Prefix) (k : Key) → Idle e → Outcome e (behind_key p k) (command_key e p k)
unfolding command_key
command_keys e p (digit d) w = digit_keys e p d w
command_keys e p (motion m) w = runs_motion e p m w
command_keys e p (operator o) w = operator_keys e p o w
command_keys e p (awaiter a) w = awaiter_keys e p a w
command_keys e (counting n) (action a) w = runs_action e n a w
command_keys e (operating o n m) (action a) w = cancels e over w
command_keys e p repeat w = cancels e over w
command_keys e p no_command w = cancels e over w

normal_keys : (e : Ed) (k : ℕ) → Idle e → Outcome e (next (waiting e.command.pending) k) (normal_key e k)
unfolding normal_key
normal_keys e k w = by e.command.pending
  where
    by : (q : Pending) → Outcome e (next (waiting q) k) (elim q [ ready p ↦ command_key e p (key_of k) | awaiting a p ↦ cond (eqb k escape) (cancel e) (argument_key e a p k) ])
    by (ready p) = command_keys e p (key_of k) w
    by (awaiting a p) = by_test e (eqb k escape) over (behind_argument a p) _ _ (cancels e over w) (argument_keys e a p k w)

pub noted_within : (e : Ed) (k : ℕ) → Within e → Within (noted e k)
unfolding noted
noted_within e k w = w

pub noted_idle : (e : Ed) (k : ℕ) → e.inserting ≡ false → (noted e k).inserting ≡ false
unfolding noted
noted_idle e k i = i

pub typed_keys : (e : Ed) (k : ℕ) → Within e → Outcome (noted e k) (next (phase e) k) (typed_key e k)
unfolding typed_key noted
typed_keys e k w = at e.inserting refl
  where
    at : (b : Bool) → e.inserting ≡ b → Outcome (noted e k) (next (cond b typing (waiting e.command.pending)) k) (cond b (insert_key (noted e k) k) (normal_key (noted e k) k))
    at true i = inserts_key (noted e k) w i k
    at false i = normal_keys (noted e k) k (record { within = w; idle = i })
