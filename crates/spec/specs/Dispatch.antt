-- From what is pending and a key to what the editor then is.
use Rattle.std.specs.Prelude.{ℕ, suc, ◌+◌, ◌-◌, Bool, true, false, cond, not, ◌&&◌, List, [], ◌∷◌, ◌++◌, length, ◌==◌, nat_le, nat_lt}
use Rattle.spec.specs.Bytes.{ascii, escape}
use Rattle.spec.specs.Text.{column, line_of}
use Rattle.spec.specs.Motions.{to_line_start, to_line_or_first, find, till, times, or_one}
use Rattle.spec.specs.Keys.{Operator, same_operator, Argument, byte_to_find, byte_to_stop_before, byte_to_write, second_g, Key, digit, motion, operator, awaiter, action, repeat, no_command, key_of, Prefix, counting, operating, Pending, ready, awaiting, longer_count, has_count, total_count}
use Rattle.spec.specs.Editor.{Ed, with_keys, with_pending, with_view}
use Rattle.spec.specs.History.{cancel}
use Rattle.spec.specs.Commands.{run_motion, operate_lines, run_action, write_over, insert_key}

-- the byte that f, t, r or g waited for
unfoldable pub argument_key : Ed → Argument → Prefix → ℕ → Ed
argument_key e byte_to_find p k = run_motion e p (find k)
argument_key e byte_to_stop_before p k = run_motion e p (till k)
argument_key e byte_to_write p k = write_over e (or_one (total_count p)) k
argument_key e second_g p k = cond (k == (ascii "g")) (run_motion e p to_line_or_first) (cancel e)

unfoldable pub digit_key : Ed → Prefix → ℕ → Ed
digit_key e p d =
    cond (d == 0 && not (has_count p)) (run_motion e p to_line_start) (with_pending e (ready (longer_count p d)))

-- an operator's key twice takes whole lines
unfoldable pub operator_key : Ed → Prefix → Operator → Ed
operator_key e (counting n) o = with_pending e (ready (operating o n 0))
operator_key e (operating q n m) o =
    cond (same_operator q o) (operate_lines o e (or_one (total_count (operating q n m)))) (cancel e)

-- f t and g go behind an operator, r doesn't
unfoldable pub awaiter_key : Ed → Prefix → Argument → Ed
awaiter_key e p byte_to_find = with_pending e (awaiting byte_to_find p)
awaiter_key e p byte_to_stop_before = with_pending e (awaiting byte_to_stop_before p)
awaiter_key e p second_g = with_pending e (awaiting second_g p)
awaiter_key e (counting n) byte_to_write = with_pending e (awaiting byte_to_write (counting n))
awaiter_key e (operating o n m) byte_to_write = cancel e

unfoldable pub command_key : Ed → Prefix → Key → Ed
command_key e p (digit d) = digit_key e p d
command_key e p (motion m) = run_motion e p m
command_key e p (operator o) = operator_key e p o
command_key e p (awaiter a) = awaiter_key e p a
command_key e (counting n) (action a) = run_action e n a
command_key e (operating o n m) (action a) = cancel e
command_key e p repeat = cancel e
command_key e p no_command = cancel e

-- one key outside of inserting
unfoldable pub normal_key : Ed → ℕ → Ed
normal_key e k = by e.command.pending
  where
    by : Pending → Ed
    by (ready p) = command_key e p (key_of k)
    by (awaiting a p) = cond (k == escape) (cancel e) (argument_key e a p k)

-- each key is noted; a command begins where the cursor stands at its first key
unfoldable pub noted : Ed → ℕ → Ed
noted e k = with_keys e (e.command.keys ++ (k ∷ [])) (cond (length e.command.keys == 0) e.cursor e.command.began)

-- one key that isn't a repeat
unfoldable pub typed_key : Ed → ℕ → Ed
typed_key e k = cond e.inserting (insert_key (noted e k) k) (normal_key (noted e k) k)

-- a command's keys again, as far as its end: it ends early where it can't be done
unfoldable pub replay : Ed → List ℕ → Ed
replay e [] = e
replay e (k ∷ ks) = cond (length (typed_key e k).command.keys == 0) (typed_key e k) (replay (typed_key e k) ks)

-- . types the keys of the last change, as often as its count says
unfoldable pub repeat_last : Ed → ℕ → Ed
repeat_last e n = times (or_one n) (λ f. replay f e.last_keys) (cancel e)

-- a repeat is one where a command may begin, perhaps with a count
unfoldable pub repeats : Ed → ℕ → Bool
repeats e k = not e.inserting && (k == (ascii ".") && begins e.command.pending)
  where
    begins : Pending → Bool
    begins (ready (counting n)) = true
    begins (ready (operating o n m)) = false
    begins (awaiting a p) = false

unfoldable pub pending_count : Pending → ℕ
pending_count (ready p) = total_count p
pending_count (awaiting a p) = total_count p

-- the first of many rows, or columns, moved as little as it must so that one is seen
unfoldable pub follow : ℕ → ℕ → ℕ → ℕ
follow a first many = cond (nat_lt a first) a (cond (nat_le (first + many) a) (suc a - many) first)

-- the last row is the status row
unfoldable pub scrolled : Ed → Ed
scrolled e = with_view e (record { rows = e.view.rows; columns = e.view.columns; top = follow (line_of e.text e.cursor) e.view.top (e.view.rows - 1); left = follow (column e.text e.cursor) e.view.left e.view.columns })

-- what a key makes of the editor
unfoldable pub key : Ed → ℕ → Ed
key e k = scrolled (cond (repeats e k) (repeat_last e (pending_count e.command.pending)) (typed_key e k))
