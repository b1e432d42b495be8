-- What becomes of the editor at commands of one key, and while inserting.
use Rattle.std.proofs.Common.{◌≡◌, ℕ, zero, suc, ◌+◌, ◌-◌, ◌≤◌, max, true, cond, ◌&&◌, ◌||◌, eqb, ltb, leb, [], ◌∷◌, ◌++◌, length, replicate, refl, ap, ◌∙◌, subst, arith}
use lib.ListN.{length-replicate, get_or-replicate}
use Rattle.std.proofs.lemmas.Bool.{cond_both, leb-false, and_parts, eqb-true, eqb-false}
use Rattle.std.proofs.lemmas.Bool.Decides.{nat_tests}
use Rattle.spec.specs.Bytes.{newline, space, tab, return, backspace, rubout, escape, is_blank, is_typeable}
use Rattle.spec.specs.Text.{Text, is_in_line, copies, skip_forward, line_end, line_start, column}
use Rattle.spec.specs.Motions.{times, or_one}
use Rattle.spec.specs.Keys.{Action, delete_chars, join_lines, put_after, put_before, insert_before, insert_after, insert_at_first_nonblank, insert_at_line_end, insert_line_below, insert_line_above, go_back, go_forth}
use Rattle.spec.specs.Editor.{Ed}
use Rattle.spec.specs.History.{edit}
use Rattle.spec.specs.Commands.{clamp_cursor, delete_chars_by, write_over, join_once, join_by, put_lines_below, put_lines_above, put_bytes, put_after_by, put_before_by, insert_at, insert_line, undo_by, redo_by, run_action, type_byte, erase_byte, leave_insert, insert_key}
use Rattle.laws.proofs.TextLines.{skip_forward_up, line_start_down, line_end_up, line_end_within}
use Rattle.laws.proofs.Standing.{StandsAt, line_start_stands, first_nonblank_stands, clamp_stands, before_line_end_stands}
use Rattle.laws.proofs.TextMotions.{or_one_positive, times_keeps}
use Rattle.laws.proofs.Edits.{copies_length, edit_inserting, edit_length, edit_within, edit_stands}
use Rattle.laws.proofs.Cursors.{Rests, stands_rests}
use Rattle.laws.proofs.HistoryEdits.{Edits, no_edit, edits_then, moved_edits, edit_edits}
use Rattle.laws.proofs.Phases.{typing, goes_on, over, back, forth, behind_action, next}
use Rattle.laws.proofs.HistoryOutcomes.{Within, Idle, lands, Outcome, types, undoes, redoes, cancels, finishes, starts_insert, either, by_test, deletes}

-- x
deletes_chars : (e : Ed) (n : ℕ) → Idle e → Outcome e over (delete_chars_by e n)
unfolding delete_chars_by
deletes_chars e n w =
    either e over (leb (line_end e.text e.cursor) e.cursor) _ _ (λ _. cancels e over w) (λ q. deletes e _ (record { from_within = w.within; to_within = omega (arith, line_end_within e.text e.cursor w.within); ordered = omega (arith, leb-false (line_end e.text e.cursor) e.cursor q); from_stands = λ _ s. s }) w)

-- r
typeable_in_line : (c : ℕ) → is_typeable c ≡ true → is_in_line c ≡ true
typeable_in_line c q = grind (arith, nat_tests)

pub writes_over : (e : Ed) (n c : ℕ) → 1 ≤ n → Idle e → Outcome e over (write_over e n c)
unfolding write_over
writes_over e n c l w =
    either e over (is_typeable c && leb (e.cursor + n) (line_end e.text e.cursor)) _ _ (λ q. finishes e _ (edit_edits e e.cursor (e.cursor + n) (replicate n c) _ (omega arith) w.within) (lands e _ (edit_stands e e.cursor (e.cursor + n) (replicate n c) (n - 1) _ w.within (omega (arith, length-replicate n c)) refl (ap is_in_line (get_or-replicate n (n - 1) c newline (omega arith)) ∙ typeable_in_line c (and_parts _ _ q).0)))) (λ _. cancels e over w)

-- J
joined_edits : (e : Ed) → Within e → Edits e (join_once e)
unfolding join_once
joined_edits e w =
    let b : ℕ = line_end e.text e.cursor in
    cond_both (ltb b (length e.text)) _ e (Edits e) (λ _. edit_edits e b (skip_forward is_blank e.text (suc b)) (space ∷ []) b (omega (arith, skip_forward_up is_blank e.text (suc b))) (line_end_within e.text e.cursor w)) (λ _. no_edit e)

joined_within : (e : Ed) → Within e → Within (join_once e)
unfolding join_once
joined_within e w =
    let b : ℕ = line_end e.text e.cursor in
    cond_both (ltb b (length e.text)) _ e Within (λ _. edit_within e b (skip_forward is_blank e.text (suc b)) (space ∷ []) b (line_end_within e.text e.cursor w) (omega arith)) (λ _. w)

joined_rests : (e : Ed) → Rests e → Rests (join_once e)
unfolding join_once
joined_rests e h =
    cond_both (ltb (line_end e.text e.cursor) (length e.text)) _ e Rests (λ _. edit_stands e (line_end e.text e.cursor) _ (space ∷ []) 0 _ (line_end_within e.text e.cursor h.within) (omega arith) (omega arith) refl) (λ _. h)

pub joins_edits : (n : ℕ) (e : Ed) → Within e → Edits e (times n join_once e)
joins_edits zero e w = no_edit e
joins_edits (suc n) e w = edits_then e (join_once e) _ (joined_edits e w) (joins_edits n (join_once e) (joined_within e w))

pub joins_within : (n : ℕ) (e : Ed) → Within e → Within (times n join_once e)
joins_within n e w = times_keeps Within join_once joined_within n e w

joins : (e : Ed) (n : ℕ) → Idle e → Outcome e over (join_by e n)
unfolding join_by
joins e n w =
    either e over (ltb (line_end e.text e.cursor) (length e.text)) _ _ (λ _. finishes e _ (joins_edits (max 1 (n - 1)) e w.within) (record { within = joins_within (max 1 (n - 1)) e w.within; rests = λ s. times_keeps Rests join_once joined_rests (max 1 (n - 1)) e (stands_rests e w.idle s) })) (λ _. cancels e over w)

-- p and P

puts_lines_below : (e : Ed) (n : ℕ) → 1 ≤ n → Idle e → Outcome e over (put_lines_below e n)
unfolding put_lines_below
puts_lines_below e n h w =
    let b : ℕ = line_end e.text e.cursor in
    let new : Text = copies n (newline ∷ e.register.bytes) in
    let k : b ≤ length e.text = line_end_within e.text e.cursor w.within in
    finishes e _ (moved_edits e (edit e b b new e.cursor) _ (edit_edits e b b new e.cursor (omega arith) k)) (lands e _ (first_nonblank_stands _ (suc b) (edit_length e b b new e.cursor (suc b) k (omega (arith, copies_length n (newline ∷ e.register.bytes) h)))))

puts_lines_above : (e : Ed) (n : ℕ) → Idle e → Outcome e over (put_lines_above e n)
unfolding put_lines_above
puts_lines_above e n w =
    let a : ℕ = line_start e.text e.cursor in
    let new : Text = copies n (e.register.bytes ++ (newline ∷ [])) in
    let k : a ≤ length e.text = omega (arith, line_start_down e.text e.cursor) in
    finishes e _ (moved_edits e (edit e a a new e.cursor) _ (edit_edits e a a new e.cursor (omega arith) k)) (lands e _ (first_nonblank_stands _ a (edit_length e a a new e.cursor a k (omega arith))))

puts_bytes : (e : Ed) (n a : ℕ) → Idle e → a ≤ length e.text → Outcome e over (put_bytes e n a)
unfolding put_bytes clamp_cursor
puts_bytes e n a w h =
    either e over (eqb (length e.register.bytes) 0) _ _ (λ _. cancels e over w) (λ _. finishes e _ (moved_edits e (edit e a a (copies n e.register.bytes) _) _ (edit_edits e a a (copies n e.register.bytes) _ (omega arith) h)) (lands e _ (clamp_stands _ _)))

puts_after : (e : Ed) (n : ℕ) → 1 ≤ n → Idle e → Outcome e over (put_after_by e n)
unfolding put_after_by
puts_after e n h w =
    either e over e.register.linewise _ _ (λ _. puts_lines_below e n h w) (λ _. puts_bytes e n _ w (omega (arith, line_end_within e.text e.cursor w.within)))

puts_before : (e : Ed) (n : ℕ) → Idle e → Outcome e over (put_before_by e n)
unfolding put_before_by
puts_before e n w = either e over e.register.linewise _ _ (λ _. puts_lines_above e n w) (λ _. puts_bytes e n e.cursor w w.within)

-- i a I A o O

inserts_at : (e : Ed) (a : ℕ) → a ≤ length e.text → Outcome e (goes_on typing) (insert_at e a)
unfolding insert_at
inserts_at e a h = starts_insert e _ (moved_edits e e a (no_edit e)) h

inserts_line : (e : Ed) (a to : ℕ) → a ≤ length e.text → to ≤ a + 1 → Outcome e (goes_on typing) (insert_line e a to)
unfolding insert_line
inserts_line e a to h k =
    starts_insert e _ (edit_edits e a a (newline ∷ []) to (omega arith) h) (edit_within e a a (newline ∷ []) to h k)

-- u and control R

goes_back : (e : Ed) (n : ℕ) → Idle e → Outcome e back (undo_by e n)
unfolding undo_by
goes_back e n w = either e back (eqb (length e.undo) 0) _ _ (λ _. cancels e back w) (λ _. undoes n w)

goes_forth : (e : Ed) (n : ℕ) → Idle e → Outcome e forth (redo_by e n)
unfolding redo_by
goes_forth e n w = either e forth (eqb (length e.redo) 0) _ _ (λ _. cancels e forth w) (λ _. redoes n w)

pub runs_action : (e : Ed) (n : ℕ) (a : Action) → Idle e → Outcome e (behind_action a) (run_action e n a)
unfolding run_action
runs_action e n delete_chars w = deletes_chars e (or_one n) w
runs_action e n join_lines w = joins e (or_one n) w
runs_action e n put_after w = puts_after e (or_one n) (or_one_positive n) w
runs_action e n put_before w = puts_before e (or_one n) w
runs_action e n insert_before w = inserts_at e e.cursor w.within
runs_action e n insert_after w = inserts_at e _ (omega (arith, line_end_within e.text e.cursor w.within))
runs_action e n insert_at_first_nonblank w = inserts_at e _ (first_nonblank_stands e.text e.cursor w.within).within
runs_action e n insert_at_line_end w = inserts_at e _ (line_end_within e.text e.cursor w.within)
runs_action e n insert_line_below w = inserts_line e _ _ (line_end_within e.text e.cursor w.within) (omega arith)
runs_action e n insert_line_above w =
    inserts_line e (line_start e.text e.cursor) _ (omega (arith, line_start_down e.text e.cursor)) (omega arith)
runs_action e n go_back w = goes_back e (or_one n) w
runs_action e n go_forth w = goes_forth e (or_one n) w

-- Inserting.

module _ (e : Ed) (w : Within e) (i : e.inserting ≡ true) where
  types_byte : (c : ℕ) → Outcome e (goes_on typing) (type_byte e c)
  unfolding type_byte
  types_byte c =
      types (edit_edits e e.cursor e.cursor (c ∷ []) _ (omega arith) w) (edit_within e e.cursor e.cursor (c ∷ []) _ w (omega arith)) (edit_inserting e _ _ _ _ ∙ i)

  erases_byte : Outcome e (goes_on typing) (erase_byte e)
  unfolding erase_byte
  erases_byte =
      either e _ (eqb e.cursor 0) e _ (λ _. types (no_edit e) w i) (λ _. types (edit_edits e (e.cursor - 1) e.cursor [] _ (omega arith) (omega arith)) (edit_within e (e.cursor - 1) e.cursor [] _ (omega arith) (omega arith)) (edit_inserting e _ _ _ _ ∙ i))

  leaves_insert : Outcome e over (leave_insert e)
  unfolding leave_insert column
  leaves_insert =
      finishes e _ (moved_edits e e _ (no_edit e)) (lands e _ (cond_both (eqb (e.cursor - line_start e.text e.cursor) 0) _ _ (StandsAt e.text) (λ q. let s : line_start e.text e.cursor ≡ e.cursor = omega (arith, eqb-true _ _ q, line_start_down e.text e.cursor) in subst (StandsAt e.text) s (line_start_stands e.text e.cursor w)) (λ q. before_line_end_stands e.text e.cursor (e.cursor - 1) w (omega (arith, eqb-false _ _ q)) (omega (arith, eqb-false _ _ q, line_end_up e.text e.cursor)))))

  inserts_other : (k : ℕ) → Outcome e (goes_on typing) (cond (eqb k return || eqb k newline) (type_byte e newline) (cond (eqb k backspace || eqb k rubout) (erase_byte e) (cond (is_typeable k || eqb k tab) (type_byte e k) e)))
  inserts_other k =
      either e _ (eqb k return || eqb k newline) _ _ (λ _. types_byte newline) (λ _. either e _ (eqb k backspace || eqb k rubout) _ _ (λ _. erases_byte) (λ _. either e _ (is_typeable k || eqb k tab) _ e (λ _. types_byte k) (λ _. types (no_edit e) w i)))

  pub inserts_key : (k : ℕ) → Outcome e (next typing k) (insert_key e k)
  unfolding insert_key
  inserts_key k = by_test e (eqb k escape) over (goes_on typing) _ _ leaves_insert (inserts_other k)
