-- How far a command is, as far as its keys alone say: what becomes of a key doesn't hang on the text, except that the command may not be done.
use Rattle.std.proofs.Common.{ℕ, cond, not, ◌&&◌, eqb}
use Rattle.spec.specs.Bytes.{escape}
use Rattle.spec.specs.Keys.{Operator, delete, yank, change, Argument, byte_to_find, byte_to_stop_before, byte_to_write, second_g, Action, delete_chars, join_lines, put_after, put_before, insert_before, insert_after, insert_at_first_nonblank, insert_at_line_end, insert_line_below, insert_line_above, go_back, go_forth, Key, digit, motion, operator, awaiter, action, repeat, no_command, key_of, Prefix, counting, operating, Pending, ready, awaiting, longer_count, has_count}
use Rattle.spec.specs.Editor.{Ed}

pub data Phase : Type 0 where
  typing : Phase
  waiting : Pending → Phase

abbrev pub phase : Ed → Phase
phase e = cond e.inserting typing (waiting e.command.pending)

-- what becomes of the command at a key: it goes on, or it is over; u and control R apart
pub data Next : Type 0 where
  goes_on : Phase → Next
  over : Next
  back : Next
  forth : Next

abbrev pub behind_operator : Operator → Next
behind_operator delete = over
behind_operator yank = over
behind_operator change = goes_on typing

abbrev pub behind_motion : Prefix → Next
behind_motion (counting n) = over
behind_motion (operating o n m) = behind_operator o

abbrev pub behind_action : Action → Next
behind_action delete_chars = over
behind_action join_lines = over
behind_action put_after = over
behind_action put_before = over
behind_action insert_before = goes_on typing
behind_action insert_after = goes_on typing
behind_action insert_at_first_nonblank = goes_on typing
behind_action insert_at_line_end = goes_on typing
behind_action insert_line_below = goes_on typing
behind_action insert_line_above = goes_on typing
behind_action go_back = back
behind_action go_forth = forth

abbrev pub behind_argument : Argument → Prefix → Next
behind_argument byte_to_find p = behind_motion p
behind_argument byte_to_stop_before p = behind_motion p
behind_argument byte_to_write p = over
behind_argument second_g p = behind_motion p

abbrev pub behind_key : Prefix → Key → Next
behind_key p (digit d) = cond (eqb d 0 && not (has_count p)) (behind_motion p) (goes_on (waiting (ready (longer_count p d))))
behind_key p (motion m) = behind_motion p
behind_key (counting n) (operator o) = goes_on (waiting (ready (operating o n 0)))
behind_key (operating q n m) (operator o) = behind_operator o
behind_key p (awaiter a) = goes_on (waiting (awaiting a p))
behind_key (counting n) (action a) = behind_action a
behind_key (operating o n m) (action a) = over
behind_key p repeat = over
behind_key p no_command = over

abbrev pub next : Phase → ℕ → Next
next typing k = cond (eqb k escape) over (goes_on typing)
next (waiting (ready p)) k = behind_key p (key_of k)
next (waiting (awaiting a p)) k = cond (eqb k escape) over (behind_argument a p)
