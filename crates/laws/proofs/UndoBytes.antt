-- Only u undoes, only control R redoes.
use Rattle.std.proofs.Common.{◌≡◌, ℕ, Bool, true, false, cond, not, ◌&&◌, eqb, refl, arith}
use Rattle.std.proofs.lemmas.Bool.Decides.{nat_tests}
use Rattle.spec.specs.Bytes.{ascii, control_r, escape}
use Rattle.spec.specs.Keys.{Operator, delete, yank, change, Argument, byte_to_find, byte_to_stop_before, byte_to_write, second_g, Action, delete_chars, join_lines, put_after, put_before, insert_before, insert_after, insert_at_first_nonblank, insert_at_line_end, insert_line_below, insert_line_above, go_back, go_forth, Key, digit, motion, operator, awaiter, action, repeat, no_command, key_of, Prefix, counting, operating, ready, awaiting, has_count}
use Rattle.laws.proofs.Phases.{Phase, typing, waiting, Next, goes_on, over, back, forth, behind_operator, behind_motion, behind_action, behind_argument, behind_key, next}

back_byte : (k : ℕ) → key_of k ≡ action go_back → k ≡ ascii "u"
unfolding key_of
back_byte k h = grind (arith, nat_tests)

forth_byte : (k : ℕ) → key_of k ≡ action go_forth → k ≡ control_r
unfolding key_of
forth_byte k h = grind (arith, nat_tests)

-- what is neither
pub data Onward : Next → Type 0 where
  goes : {p : Phase} → Onward (goes_on p)
  is_over : Onward over

onward_operator : (o : Operator) → Onward (behind_operator o)
onward_operator delete = is_over
onward_operator yank = is_over
onward_operator change = goes

onward_motion : (p : Prefix) → Onward (behind_motion p)
onward_motion (counting n) = is_over
onward_motion (operating o n m) = onward_operator o

onward_argument : (a : Argument) (p : Prefix) → Onward (behind_argument a p)
onward_argument byte_to_find p = onward_motion p
onward_argument byte_to_stop_before p = onward_motion p
onward_argument byte_to_write p = is_over
onward_argument second_g p = onward_motion p

onward_either : (b : Bool) (x y : Next) → Onward x → Onward y → Onward (cond b x y)
onward_either true x y p q = p
onward_either false x y p q = q

-- what is said of a key, and what that says of the byte
pub data KeyByte (k : ℕ) : Next → Type 0 where
  onward : {x : Next} → Onward x → KeyByte k x
  undoing : k ≡ ascii "u" → KeyByte k back
  redoing : k ≡ control_r → KeyByte k forth

action_byte : (k : ℕ) (a : Action) → key_of k ≡ action a → KeyByte k (behind_action a)
action_byte k delete_chars n = onward is_over
action_byte k join_lines n = onward is_over
action_byte k put_after n = onward is_over
action_byte k put_before n = onward is_over
action_byte k insert_before n = onward goes
action_byte k insert_after n = onward goes
action_byte k insert_at_first_nonblank n = onward goes
action_byte k insert_at_line_end n = onward goes
action_byte k insert_line_below n = onward goes
action_byte k insert_line_above n = onward goes
action_byte k go_back n = undoing (back_byte k n)
action_byte k go_forth n = redoing (forth_byte k n)

command_byte : (k : ℕ) (p : Prefix) (x : Key) → key_of k ≡ x → KeyByte k (behind_key p x)
command_byte k p (digit d) n = onward (onward_either (eqb d 0 && not (has_count p)) _ _ (onward_motion p) goes)
command_byte k p (motion m) n = onward (onward_motion p)
command_byte k (counting c) (operator o) n = onward goes
command_byte k (operating q c m) (operator o) n = onward (onward_operator o)
command_byte k p (awaiter a) n = onward goes
command_byte k (counting c) (action a) n = action_byte k a n
command_byte k (operating o c m) (action a) n = onward is_over
command_byte k p repeat n = onward is_over
command_byte k p no_command n = onward is_over

pub key_byte : (p : Phase) (k : ℕ) → KeyByte k (next p k)
key_byte typing k = onward (onward_either (eqb k escape) _ _ is_over goes)
key_byte (waiting (ready p)) k = command_byte k p (key_of k) refl
key_byte (waiting (awaiting a p)) k = onward (onward_either (eqb k escape) _ _ is_over (onward_argument a p))

undo_byte : (k : ℕ) {x : Next} → KeyByte k x → back ≡ x → k ≡ ascii "u"
undo_byte k (onward goes) n = cc
undo_byte k (onward is_over) n = cc
undo_byte k (undoing e) n = e
undo_byte k (redoing e) n = cc

redo_byte : (k : ℕ) {x : Next} → KeyByte k x → forth ≡ x → k ≡ control_r
redo_byte k (onward goes) n = cc
redo_byte k (onward is_over) n = cc
redo_byte k (undoing e) n = cc
redo_byte k (redoing e) n = e

pub only_u : (p : Phase) (k : ℕ) → back ≡ next p k → k ≡ ascii "u"
only_u p k n = undo_byte k (key_byte p k) n

pub only_control_r : (p : Phase) (k : ℕ) → forth ≡ next p k → k ≡ control_r
only_control_r p k n = redo_byte k (key_byte p k) n
