-- A command that can't be done is cancelled. Each lemma tells it from the editor as it was before its last key was noted.
use Rattle.std.proofs.Common.{◌≡◌, ℕ, ◌+◌, Bool, true, false, cond, not, ◌&&◌, ◌||◌, eqb, ltb, leb, length, sym, refl, ◌∙◌, ⊎_elim}
use mathlib.Core.Option.{Option, some, none}
use Rattle.std.proofs.lemmas.Bool.{true≢false, and_parts, or_cases, not-true, cond-true, cond-false}
use Rattle.spec.specs.Bytes.{ascii, escape, is_typeable}
use Rattle.spec.specs.Text.{line_end}
use Rattle.spec.specs.Motions.{Motion, to_line_start, to_line_or_first, find, till, Target, Region, or_one, motion_target, region, lines_region}
use Rattle.spec.specs.Keys.{Operator, delete, yank, change, same_operator, Argument, byte_to_find, byte_to_stop_before, byte_to_write, second_g, Action, delete_chars, join_lines, put_after, put_before, insert_before, insert_after, insert_at_first_nonblank, insert_at_line_end, insert_line_below, insert_line_above, go_back, go_forth, Key, digit, motion, operator, awaiter, action, repeat, no_command, key_of, Prefix, counting, operating, Pending, ready, awaiting, has_count, total_count}
use Rattle.spec.specs.Editor.{Ed, OpenCommand, with_command, with_pending}
use Rattle.spec.specs.History.{cancel}
use Rattle.spec.specs.Commands.{delete_region, yank_region, operate, run_motion, operate_lines, delete_chars_by, write_over, join_by, put_bytes, put_after_by, put_before_by, undo_by, redo_by, run_action}
use Rattle.spec.specs.Dispatch.{argument_key, digit_key, operator_key, awaiter_key, command_key, normal_key, noted}
use Rattle.spec.specs.Laws.{takes_nothing, cannot_move, cannot_take_lines, cannot_write_over, cannot_put, cannot_act, cannot_command, cannot_argument, can_not}

-- a test fails, or what it chooses is the other one
fails_or : {A : Type 0} (b d : Bool) (x y : A) → (not b || d) ≡ true → (d ≡ true → x ≡ y) → cond b x y ≡ y
fails_or true d x y h f = f h
fails_or false d x y h f = refl

cond_cancels : {A : Type 0} (b : Bool) {x y : A} → x ≡ y → cond b y x ≡ y
cond_cancels true q = refl
cond_cancels false q = q

takes_nothing_cancels : (o : Operator) (e : Ed) (r : Region) → takes_nothing o r ≡ true → operate o e r ≡ cancel e
unfolding operate delete_region yank_region
takes_nothing_cancels delete e r h =
    let b : (not r.linewise ≡ true) × (leb r.to r.from ≡ true) = and_parts (not r.linewise) (leb r.to r.from) h in
    cond-false _ _ _ (not-true r.linewise b.0) ∙ cond-true _ _ _ b.1
takes_nothing_cancels yank e r h =
    let b : (not r.linewise ≡ true) × (leb r.to r.from ≡ true) = and_parts (not r.linewise) (leb r.to r.from) h in
    cond-false _ _ _ (not-true r.linewise b.0) ∙ cond-true _ _ _ b.1
takes_nothing_cancels change e r h = absurd (true≢false (sym h))

cannot_move_cancels : (e : Ed) (c : OpenCommand) (p : Prefix) (m : Motion) → cannot_move e p m ≡ true → run_motion (with_command e c) p m ≡ cancel (with_command e c)
unfolding cannot_move run_motion
cannot_move_cancels e c (counting n) m = at (motion_target false e.text e.cursor e.kept_column n m) refl
  where
    at : (g : Option Target) → motion_target false e.text e.cursor e.kept_column n m ≡ g → cannot_move e (counting n) m ≡ true → run_motion (with_command e c) (counting n) m ≡ cancel (with_command e c)
    at none q = rw q (λ h. refl)
    at (some g) q = rw q (λ h. absurd (true≢false (sym h)))
cannot_move_cancels e c (operating o a b) m = at (motion_target true e.text e.cursor e.kept_column (total_count (operating o a b)) m) refl
  where
    at : (g : Option Target) → motion_target true e.text e.cursor e.kept_column (total_count (operating o a b)) m ≡ g → cannot_move e (operating o a b) m ≡ true → run_motion (with_command e c) (operating o a b) m ≡ cancel (with_command e c)
    at none q = rw q (λ h. refl)
    at (some g) q = rw q (λ h. takes_nothing_cancels o (with_command e c) (region e.text e.cursor g) h)

cannot_take_lines_cancels : (o : Operator) (e : Ed) (c : OpenCommand) (n : ℕ) → cannot_take_lines e n ≡ true → operate_lines o (with_command e c) n ≡ cancel (with_command e c)
unfolding cannot_take_lines operate_lines
cannot_take_lines_cancels o e c n = at (lines_region e.text e.cursor n) refl
  where
    at : (r : Option Region) → lines_region e.text e.cursor n ≡ r → cannot_take_lines e n ≡ true → operate_lines o (with_command e c) n ≡ cancel (with_command e c)
    at none q = rw q (λ h. refl)
    at (some r) q = rw q (λ h. absurd (true≢false (sym h)))

cannot_write_over_cancels : (e : Ed) (c : OpenCommand) (n k : ℕ) → cannot_write_over e n k ≡ true → write_over (with_command e c) n k ≡ cancel (with_command e c)
unfolding cannot_write_over write_over
cannot_write_over_cancels e c n k h = cond-false _ _ _ (not-true (is_typeable k && leb (e.cursor + n) (line_end e.text e.cursor)) h)

cannot_put_cancels : (e : Ed) (c : OpenCommand) (n a : ℕ) (f : Ed) → cannot_put e ≡ true → cond e.register.linewise f (put_bytes (with_command e c) n a) ≡ cancel (with_command e c)
unfolding cannot_put put_bytes
cannot_put_cancels e c n a f h =
    let b : (not e.register.linewise ≡ true) × (eqb (length e.register.bytes) 0 ≡ true) = and_parts (not e.register.linewise) (eqb (length e.register.bytes) 0) h in
    cond-false _ _ _ (not-true e.register.linewise b.0) ∙ cond-true _ _ _ b.1

cannot_act_cancels : (e : Ed) (c : OpenCommand) (n : ℕ) (a : Action) → cannot_act e a ≡ true → run_action (with_command e c) n a ≡ cancel (with_command e c)
unfolding cannot_act run_action delete_chars_by join_by put_after_by put_before_by undo_by redo_by
cannot_act_cancels e c n delete_chars h = cond-true _ _ _ h
cannot_act_cancels e c n join_lines h = cond-false _ _ _ (not-true (ltb (line_end e.text e.cursor) (length e.text)) h)
cannot_act_cancels e c n put_after h = cannot_put_cancels e c (or_one n) _ _ h
cannot_act_cancels e c n put_before h = cannot_put_cancels e c (or_one n) _ _ h
cannot_act_cancels e c n insert_before h = absurd (true≢false (sym h))
cannot_act_cancels e c n insert_after h = absurd (true≢false (sym h))
cannot_act_cancels e c n insert_at_first_nonblank h = absurd (true≢false (sym h))
cannot_act_cancels e c n insert_at_line_end h = absurd (true≢false (sym h))
cannot_act_cancels e c n insert_line_below h = absurd (true≢false (sym h))
cannot_act_cancels e c n insert_line_above h = absurd (true≢false (sym h))
cannot_act_cancels e c n go_back h = cond-true _ _ _ h
cannot_act_cancels e c n go_forth h = cond-true _ _ _ h

cannot_command_cancels : (e : Ed) (c : OpenCommand) (p : Prefix) (k : Key) → cannot_command e p k ≡ true → command_key (with_command e c) p k ≡ cancel (with_command e c)
unfolding cannot_command command_key digit_key operator_key awaiter_key
cannot_command_cancels e c p (digit d) h =
    let b : ((eqb d 0 && not (has_count p)) ≡ true) × (cannot_move e p to_line_start ≡ true) = and_parts (eqb d 0 && not (has_count p)) (cannot_move e p to_line_start) h in
    cond-true _ _ _ b.0 ∙ cannot_move_cancels e c p to_line_start b.1
cannot_command_cancels e c p (motion m) h = cannot_move_cancels e c p m h
cannot_command_cancels e c (counting n) (operator o) h = absurd (true≢false (sym h))
cannot_command_cancels e c (operating q n m) (operator o) h = fails_or (same_operator q o) _ _ _ h (cannot_take_lines_cancels o e c _)
cannot_command_cancels e c p (awaiter byte_to_find) h = absurd (true≢false (sym h))
cannot_command_cancels e c p (awaiter byte_to_stop_before) h = absurd (true≢false (sym h))
cannot_command_cancels e c p (awaiter second_g) h = absurd (true≢false (sym h))
cannot_command_cancels e c (counting n) (awaiter byte_to_write) h = absurd (true≢false (sym h))
cannot_command_cancels e c (operating o n m) (awaiter byte_to_write) h = refl
cannot_command_cancels e c (counting n) (action a) h = cannot_act_cancels e c n a h
cannot_command_cancels e c (operating o n m) (action a) h = refl
cannot_command_cancels e c p repeat h = refl
cannot_command_cancels e c p no_command h = refl

cannot_argument_cancels : (e : Ed) (c : OpenCommand) (a : Argument) (p : Prefix) (k : ℕ) → cannot_argument e a p k ≡ true → argument_key (with_command e c) a p k ≡ cancel (with_command e c)
unfolding cannot_argument argument_key
cannot_argument_cancels e c byte_to_find p k h = cannot_move_cancels e c p (find k) h
cannot_argument_cancels e c byte_to_stop_before p k h = cannot_move_cancels e c p (till k) h
cannot_argument_cancels e c byte_to_write p k h = cannot_write_over_cancels e c (or_one (total_count p)) k h
cannot_argument_cancels e c second_g p k h = fails_or (eqb k (ascii "g")) _ _ _ h (cannot_move_cancels e c p to_line_or_first)

-- by what is pending in e and, with the same, in the command of which the key is noted
can_not_cancels_by : (e : Ed) (c : OpenCommand) (p : Pending) (k : ℕ) → can_not (with_pending e p) k ≡ true → normal_key (with_pending (with_command e c) p) k ≡ cancel (with_pending (with_command e c) p)
unfolding can_not normal_key
can_not_cancels_by e c (ready p) k h = cannot_command_cancels (with_pending e (ready p)) _ p (key_of k) h
can_not_cancels_by e c (awaiting a p) k h =
    ⊎_elim (λ q. cond-true _ _ _ q) (λ q. cond_cancels (eqb k escape) (cannot_argument_cancels (with_pending e (awaiting a p)) _ a p k q)) (or_cases (eqb k escape) _ h)

pub can_not_cancels : (e : Ed) (k : ℕ) → can_not e k ≡ true → normal_key (noted e k) k ≡ cancel (noted e k)
unfolding noted
can_not_cancels e k h = can_not_cancels_by e (noted e k).command e.command.pending k h

cannot_escape_by : (e : Ed) (p : Pending) → can_not (with_pending e p) escape ≡ true
unfolding can_not cannot_command key_of
cannot_escape_by e (ready p) = refl
cannot_escape_by e (awaiting a p) = refl

pub cannot_escape : (e : Ed) → can_not e escape ≡ true
cannot_escape e = cannot_escape_by e e.command.pending
