-- What an edit makes of the text and the cursor, and what the end of a command leaves.
use Rattle.std.proofs.Common.{◌≡◌, ℕ, zero, suc, ◌+◌, ◌<◌, ◌≤◌, true, ◌&&◌, eqb, List, [], ◌∷◌, ◌++◌, length, take, drop, sym, refl, ap, ◌∙◌, arith, length-append, length-take-le, get_or-append-add}
use Rattle.std.proofs.lemmas.Bool.{cond_both, and_parts, eqb-true}
use Rattle.std.proofs.lemmas.List.{get_or_append_left}
use Rattle.spec.specs.Bytes.{newline}
use Rattle.spec.specs.Text.{Text, byte, part, replaced, is_in_line, copies}
use Rattle.spec.specs.Editor.{Ed, Change}
use Rattle.spec.specs.History.{edit, recorded, finish}
use Rattle.lists.proofs.Replaced.{length_replaced}
use Rattle.laws.proofs.Standing.{StandsAt, byte_stands}

-- Replacing.

pub replaced_byte : (t : Text) (a b : ℕ) (new : Text) (i : ℕ) → a ≤ length t → i < length new → byte (replaced t a b new) (a + i) ≡ byte new i
replaced_byte t a b new i h l =
    ap (λ n. byte (replaced t a b new) (n + i)) (sym (length-take-le a t h)) ∙ get_or-append-add (take a t) (new ++ drop b t) i newline ∙ get_or_append_left new (drop b t) newline i l

pub copies_length : (n : ℕ) (t : Text) → 1 ≤ n → length t ≤ length (copies n t)
unfolding copies
copies_length zero t l = absurd (omega arith)
copies_length (suc n) t l = omega (arith, length-append t (copies n t))

-- Edits.

pub edit_cursor : (e : Ed) (a b : ℕ) (new : Text) (to : ℕ) → (edit e a b new to).cursor ≡ to
unfolding edit
edit_cursor e a b new to = cond_both _ _ _ (λ (f : Ed). f.cursor ≡ to) (λ _. refl) (λ _. refl)

pub edit_inserting : (e : Ed) (a b : ℕ) (new : Text) (to : ℕ) → (edit e a b new to).inserting ≡ e.inserting
unfolding edit
edit_inserting e a b new to = cond_both _ _ _ (λ (f : Ed). f.inserting ≡ e.inserting) (λ _. refl) (λ _. refl)

-- as far as the new bytes go the text goes
pub edit_length : (e : Ed) (a b : ℕ) (new : Text) (to i : ℕ) → a ≤ length e.text → i ≤ a + length new → i ≤ length (edit e a b new to).text
unfolding edit
edit_length e a b new to i h l =
    cond_both (eqb (length (part e.text a b)) 0 && eqb (length new) 0) _ _ (λ (f : Ed). i ≤ length f.text) (λ q. omega (arith, eqb-true (length new) 0 (and_parts (eqb (length (part e.text a b)) 0) (eqb (length new) 0) q).1)) (λ _. omega (arith, length_replaced e.text new a b h))

pub edit_byte : (e : Ed) (a b : ℕ) (new : Text) (to i : ℕ) → a ≤ length e.text → i < length new → byte (edit e a b new to).text (a + i) ≡ byte new i
unfolding edit
edit_byte e a b new to i h l =
    cond_both (eqb (length (part e.text a b)) 0 && eqb (length new) 0) _ _ (λ (f : Ed). byte f.text (a + i) ≡ byte new i) (λ q. absurd (omega (arith, eqb-true (length new) 0 (and_parts (eqb (length (part e.text a b)) 0) (eqb (length new) 0) q).1))) (λ _. replaced_byte e.text a b new i h l)

-- and so may the cursor
pub edit_within : (e : Ed) (a b : ℕ) (new : Text) (to : ℕ) → a ≤ length e.text → to ≤ a + length new → (edit e a b new to).cursor ≤ length (edit e a b new to).text
edit_within e a b new to h l = rw (edit_cursor e a b new to) (edit_length e a b new to to h l)

-- The cursor may stand on a new byte that is no line end.
pub edit_stands : (e : Ed) (a b : ℕ) (new : Text) (i to : ℕ) → a ≤ length e.text → i < length new → to ≡ a + i → is_in_line (byte new i) ≡ true → StandsAt (edit e a b new to).text (edit e a b new to).cursor
edit_stands e a b new i to h l q w =
    rw (edit_cursor e a b new to) (byte_stands (edit e a b new to).text to (ap (λ n. is_in_line (byte (edit e a b new to).text n)) q ∙ ap is_in_line (edit_byte e a b new to i h l) ∙ w))

-- The end of a command.

recorded_text : (e : Ed) (cs : List Change) → (recorded e cs).text ≡ e.text
unfolding recorded
recorded_text e [] = refl
recorded_text e (c ∷ cs) = refl

recorded_cursor : (e : Ed) (cs : List Change) → (recorded e cs).cursor ≡ e.cursor
unfolding recorded
recorded_cursor e [] = refl
recorded_cursor e (c ∷ cs) = refl

pub finish_text : (e : Ed) → (finish e).text ≡ e.text
unfolding finish
finish_text e = recorded_text e e.command.changes

pub finish_cursor : (e : Ed) → (finish e).cursor ≡ e.cursor
unfolding finish
finish_cursor e = recorded_cursor e e.command.changes
