-- What a command that isn't done yet, or can't be done, leaves.
use Rattle.std.specs.Prelude.{◌≡◌, ℕ, ◌+◌, ◌≤◌, Bool, true, false, cond, not, ◌&&◌, ◌||◌, List, [], ◌∷◌, ◌++◌, length, codes, ◌==◌, ◌≢◌, nat_le, nat_lt}
use Rattle.std.proofs.Math.Option.{Option, some, none}
use Rattle.spec.specs.Bytes.{ascii, escape, is_typeable}
use Rattle.spec.specs.Text.{line_end, column, last_in_line}
use Rattle.spec.specs.Motions.{Motion, to_line_start, to_line_or_first, find, till, Target, Region, or_one, motion_target, region, lines_region}
use Rattle.spec.specs.Keys.{Operator, delete, yank, change, same_operator, Argument, byte_to_find, byte_to_stop_before, byte_to_write, second_g, Action, delete_chars, join_lines, put_after, put_before, insert_before, insert_after, insert_at_first_nonblank, insert_at_line_end, insert_line_below, insert_line_above, go_back, go_forth, Key, digit, motion, operator, awaiter, action, repeat, no_command, key_of, Prefix, counting, operating, Pending, ready, awaiting, longer_count, has_count, total_count, is_operating}
use Rattle.spec.specs.Editor.{Ed, with_command, with_view, no_command_yet, initial}
use Rattle.spec.specs.Dispatch.{key}
use Rattle.spec.specs.Promises.{Reachable}
use Rattle.spec.specs.Worked.{after, example}

-- What is pending after a key that only goes on with a command:
-- a digit of a count, an operator's key where none is pending, a key that waits for a byte.
abbrev pub continued : Prefix → Key → Option Pending
continued p (digit d) = cond (d == 0 && not (has_count p)) none (some (ready (longer_count p d)))
continued p (motion m) = none
continued (counting n) (operator o) = some (ready (operating o n 0))
continued (operating q n m) (operator o) = none
continued p (awaiter byte_to_find) = some (awaiting byte_to_find p)
continued p (awaiter byte_to_stop_before) = some (awaiting byte_to_stop_before p)
continued p (awaiter second_g) = some (awaiting second_g p)
continued (counting n) (awaiter byte_to_write) = some (awaiting byte_to_write (counting n))
continued (operating o n m) (awaiter byte_to_write) = none
continued p (action a) = none
continued p repeat = none
continued p no_command = none

abbrev pub goes_on_with : Pending → ℕ → Option Pending
goes_on_with (ready p) k = continued p (key_of k)
goes_on_with (awaiting a p) k = none

-- When a command can't be done.

-- nothing to take; but c then just inserts
abbrev pub takes_nothing : Operator → Region → Bool
takes_nothing delete r = not r.linewise && nat_le r.to r.from
takes_nothing yank r = not r.linewise && nat_le r.to r.from
takes_nothing change r = false

-- the motion leads nowhere, or the operator before it has nothing to take
unfoldable pub cannot_move : Ed → Prefix → Motion → Bool
cannot_move e p m = to p (motion_target (is_operating p) e.text e.cursor e.kept_column (total_count p) m)
  where
    to : Prefix → Option Target → Bool
    to q none = true
    to (counting n) (some g) = false
    to (operating o a b) (some g) = takes_nothing o (region e.text e.cursor g)

-- there aren't as many lines
unfoldable pub cannot_take_lines : Ed → ℕ → Bool
cannot_take_lines e n = on (lines_region e.text e.cursor n)
  where
    on : Option Region → Bool
    on none = true
    on (some r) = false

unfoldable pub cannot_write_over : Ed → ℕ → ℕ → Bool
cannot_write_over e n c = not (is_typeable c && nat_le (e.cursor + n) (line_end e.text e.cursor))

unfoldable pub cannot_put : Ed → Bool
cannot_put e = not e.register.linewise && length e.register.bytes == 0

unfoldable pub cannot_act : Ed → Action → Bool
cannot_act e delete_chars = nat_le (line_end e.text e.cursor) e.cursor
cannot_act e join_lines = not (nat_lt (line_end e.text e.cursor) (length e.text))
cannot_act e put_after = cannot_put e
cannot_act e put_before = cannot_put e
cannot_act e insert_before = false
cannot_act e insert_after = false
cannot_act e insert_at_first_nonblank = false
cannot_act e insert_at_line_end = false
cannot_act e insert_line_below = false
cannot_act e insert_line_above = false
cannot_act e go_back = length e.undo == 0
cannot_act e go_forth = length e.redo == 0

unfoldable pub cannot_command : Ed → Prefix → Key → Bool
cannot_command e p (digit d) = (d == 0 && not (has_count p)) && cannot_move e p to_line_start
cannot_command e p (motion m) = cannot_move e p m
cannot_command e (counting n) (operator o) = false
cannot_command e (operating q n m) (operator o) =
    not (same_operator q o) || cannot_take_lines e (or_one (total_count (operating q n m)))
cannot_command e p (awaiter byte_to_find) = false
cannot_command e p (awaiter byte_to_stop_before) = false
cannot_command e p (awaiter second_g) = false
cannot_command e (counting n) (awaiter byte_to_write) = false
cannot_command e (operating o n m) (awaiter byte_to_write) = true
cannot_command e (counting n) (action a) = cannot_act e a
cannot_command e (operating o n m) (action a) = true
cannot_command e (counting n) repeat = length e.last_keys == 0
cannot_command e (operating o n m) repeat = true
cannot_command e p no_command = true

unfoldable pub cannot_argument : Ed → Argument → Prefix → ℕ → Bool
cannot_argument e byte_to_find p k = cannot_move e p (find k)
cannot_argument e byte_to_stop_before p k = cannot_move e p (till k)
cannot_argument e byte_to_write p k = cannot_write_over e (or_one (total_count p)) k
cannot_argument e second_g p k = not (k == (ascii "g")) || cannot_move e p to_line_or_first

-- whether a key outside of inserting ends a command that can't be done, or that is none
unfoldable pub can_not : Ed → ℕ → Bool
can_not e k = by e.command.pending
  where
    by : Pending → Bool
    by (ready p) = cannot_command e p (key_of k)
    by (awaiting a p) = k == escape || cannot_argument e a p k

-- All is the same but the command that is going on; so is the view, where the screen has a text row and a column.
pub record OnlyCommand (e f : Ed) : Type 0 where
  pub same : f ≡ with_view (with_command e f.command) f.view
  pub view : 2 ≤ e.view.rows → 1 ≤ e.view.columns → f.view ≡ e.view

-- A command is going on, and its keys are those of e with one more.
pub record GoesOn (e : Ed) (k : ℕ) (p : Pending) : Type 0 where
  pub only_command : OnlyCommand e (key e k)
  pub keys : (key e k).command.keys ≡ e.command.keys ++ (k ∷ [])
  pub pending : (key e k).command.pending ≡ p

-- Nothing is pending any more.
pub record IsOver (e : Ed) (k : ℕ) : Type 0 where
  pub only_command : OnlyCommand e (key e k)
  pub command : (key e k).command ≡ no_command_yet e.cursor

-- What keys outside of inserting leave as it is.
pub record Harmless (e : Ed) : Type 0 where
  -- if a command is going on after a key, nothing else has changed
  pub unfinished : (k : ℕ) → (key e k).inserting ≡ false → ((key e k).command.keys ≢ []) → OnlyCommand e (key e k)
  -- and it is going on after the keys that go on with one
  pub goes_on : (k : ℕ) (p : Pending) → goes_on_with e.command.pending k ≡ some p → GoesOn e k p
  -- a command that can't be done is over, and nothing else has changed
  pub not_done : (k : ℕ) → can_not e k ≡ true → IsOver e k
  pub escaped : IsOver e escape

abbrev pub PendingIsHarmless : Type 0
PendingIsHarmless = (e : Ed) → Reachable e → e.inserting ≡ false → Harmless e

-- Editors to which the theorems on the cursor apply with something to say: the example on 3 rows and 12 columns after keys.
abbrev pub small_after : List ℕ → Ed
small_after ks = after (initial example 3 12) ks

-- x on a line's last byte: the cursor goes to the one that is the last then
pub record StandsWitness (e : Ed) : Type 0 where
  pub reachable : Reachable e
  pub outside : e.inserting ≡ false
  pub cursor : e.cursor ≡ 17
  pub last : last_in_line e.text 17 ≡ 17

-- a place that is seen only because the view moved both down and to the right
pub record SeesWitness (e : Ed) : Type 0 where
  pub reachable : Reachable e
  pub top : e.view.top ≡ 2
  pub left : e.view.left ≡ 6

-- an operator with a count before it and one behind it, where j and k keep to another column than the cursor's:
-- f goes on with it; j can't be done, since there aren't as many lines; w can
pub record PendingWitness (e : Ed) : Type 0 where
  pub reachable : Reachable e
  pub outside : e.inserting ≡ false
  pub kept_column : e.kept_column ≡ 18
  pub column : column e.text e.cursor ≡ 11
  pub pending : e.command.pending ≡ ready (operating delete 2 3)
  pub goes_on : goes_on_with e.command.pending (ascii "f") ≡ some (awaiting byte_to_find (operating delete 2 3))
  pub cannot : can_not e (ascii "j") ≡ true
  pub can : can_not e (ascii "w") ≡ false

pub record CursorWitnesses : Type 0 where
  pub stands : StandsWitness (small_after (codes "$x"))
  pub sees : SeesWitness (small_after (codes "jjj$"))
  pub pending : PendingWitness (small_after (codes "$j2d3"))
