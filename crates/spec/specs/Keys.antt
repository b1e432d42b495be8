-- What a byte means as a key outside of inserting, and what of a command is pending.
use Rattle.std.specs.Prelude.{ℕ, ◌+◌, ◌-◌, ◌*◌, min, Bool, true, false, cond, not, ◌&&◌, ◌==◌}
use Rattle.spec.specs.Bytes.{ascii, control_r, is_digit}
use Rattle.spec.specs.Motions.{Motion, char_left, char_right, line_down, line_up, to_first_nonblank, to_line_end, to_next_word, to_previous_word, to_word_end, to_line_or_last, or_one}

pub data Operator : Type 0 where
  delete : Operator
  yank : Operator
  change : Operator

abbrev pub same_operator : Operator → Operator → Bool
same_operator delete delete = true
same_operator delete yank = false
same_operator delete change = false
same_operator yank delete = false
same_operator yank yank = true
same_operator yank change = false
same_operator change delete = false
same_operator change yank = false
same_operator change change = true

-- what a key waits for: the byte of f, t and r, the second g of gg
pub data Argument : Type 0 where
  byte_to_find : Argument
  byte_to_stop_before : Argument
  byte_to_write : Argument
  second_g : Argument

-- commands of one key
pub data Action : Type 0 where
  -- x J p P
  delete_chars : Action
  join_lines : Action
  put_after : Action
  put_before : Action
  -- i a I A o O
  insert_before : Action
  insert_after : Action
  insert_at_first_nonblank : Action
  insert_at_line_end : Action
  insert_line_below : Action
  insert_line_above : Action
  -- u and control R
  go_back : Action
  go_forth : Action

pub data Key : Type 0 where
  -- 0 is a motion where no count has begun
  digit : ℕ → Key
  motion : Motion → Key
  operator : Operator → Key
  awaiter : Argument → Key
  action : Action → Key
  repeat : Key
  -- escape, and all that is no command
  no_command : Key

unfoldable pub key_of : ℕ → Key
key_of k =
    cond (is_digit k) (digit (k - ascii "0"))
    (cond (k == (ascii "h")) (motion char_left)
    (cond (k == (ascii "l")) (motion char_right)
    (cond (k == (ascii "j")) (motion line_down)
    (cond (k == (ascii "k")) (motion line_up)
    (cond (k == (ascii "^")) (motion to_first_nonblank)
    (cond (k == (ascii "$")) (motion to_line_end)
    (cond (k == (ascii "w")) (motion to_next_word)
    (cond (k == (ascii "b")) (motion to_previous_word)
    (cond (k == (ascii "e")) (motion to_word_end)
    (cond (k == (ascii "G")) (motion to_line_or_last)
    (cond (k == (ascii "d")) (operator delete)
    (cond (k == (ascii "y")) (operator yank)
    (cond (k == (ascii "c")) (operator change)
    (cond (k == (ascii "f")) (awaiter byte_to_find)
    (cond (k == (ascii "t")) (awaiter byte_to_stop_before)
    (cond (k == (ascii "r")) (awaiter byte_to_write)
    (cond (k == (ascii "g")) (awaiter second_g)
    (cond (k == (ascii "x")) (action delete_chars)
    (cond (k == (ascii "J")) (action join_lines)
    (cond (k == (ascii "p")) (action put_after)
    (cond (k == (ascii "P")) (action put_before)
    (cond (k == (ascii "i")) (action insert_before)
    (cond (k == (ascii "a")) (action insert_after)
    (cond (k == (ascii "I")) (action insert_at_first_nonblank)
    (cond (k == (ascii "A")) (action insert_at_line_end)
    (cond (k == (ascii "o")) (action insert_line_below)
    (cond (k == (ascii "O")) (action insert_line_above)
    (cond (k == (ascii "u")) (action go_back)
    (cond (k == control_r) (action go_forth)
    (cond (k == (ascii ".")) repeat
    no_command))))))))))))))))))))))))))))))

-- what stands before a motion or an action: a count, 0 for none; or an operator with the count before it and the one behind it
pub data Prefix : Type 0 where
  counting : ℕ → Prefix
  operating : Operator → ℕ → ℕ → Prefix

-- a command so far: it may go on with any key, or a key waits for one more byte
pub data Pending : Type 0 where
  ready : Prefix → Pending
  awaiting : Argument → Prefix → Pending

abbrev pub no_prefix : Pending
no_prefix = ready (counting 0)

abbrev pub largest_count : ℕ
largest_count = 9999

abbrev pub with_digit : ℕ → ℕ → ℕ
with_digit n d = min (10 * n + d) largest_count

-- one more digit of the count that is being typed
abbrev pub longer_count : Prefix → ℕ → Prefix
longer_count (counting n) d = counting (with_digit n d)
longer_count (operating o n m) d = operating o n (with_digit m d)

-- whether a digit 0 goes on with a count
abbrev pub has_count : Prefix → Bool
has_count (counting n) = not (n == 0)
has_count (operating o n m) = not (m == 0)

-- both counts multiplied; 0 where there is none
abbrev pub total_count : Prefix → ℕ
total_count (counting n) = n
total_count (operating o n m) = cond (n == 0 && m == 0) 0 (or_one n * or_one m)

abbrev pub is_operating : Prefix → Bool
is_operating (counting n) = false
is_operating (operating o n m) = true
