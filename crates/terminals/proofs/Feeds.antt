-- What a terminal makes of a move, a run of printable bytes, a clear, and a byte that ends a sequence.
use Rattle.std.proofs.Common.{◌≡◌, ℕ, suc, ◌+◌, ◌-◌, ◌<◌, ◌≤◌, min, true, leb, List, [], ◌∷◌, ◌++◌, length, get_or, take, drop, set, replicate, sym, refl, ap, ◌∙◌, ⊎_elim, append_assoc, add-zero, arith, length-append, length-set}
use lib.ListN.{length-replicate}
use Rattle.std.proofs.lemmas.List.{take_more_set, drop-set-lt, set-set, get_or-set_same, take-append-drop, length-take-le, set-get_or, take_at, replicate-append-replicate}
use Rattle.std.proofs.lemmas.Bool.{lt-ltb, le-leb, ne_eqb, leb-true, and_parts, cases_eq, eq-eqb}
use Rattle.spec.specs.Bytes.{ascii, escape, is_printable, cancel_sequence}
use Rattle.spec.specs.Screen.{Row, blank, decimal}
use Rattle.spec.specs.Terminal.{Phase, ground, escaped, first_number, second_number, Terminal, more_number, written, cleared_right, moved, granted, end_sequence, feed_byte, feed}
use Rattle.terminals.specs.Sequences.{row_number, column_number, move_bytes, clear_bytes, Printable, overwritten}
use Rattle.terminals.proofs.Decimals.{Digits, decimal_digits}

abbrev pub terminal : List Row → ℕ → ℕ → Phase → Terminal
terminal g r c p = record { grid = g; row = r; column = c; phase = p }

-- outside of a sequence
abbrev pub resting : List Row → ℕ → ℕ → Terminal
resting g r c = terminal g r c ground

-- one part after another
pub feed_append : (t : Terminal) (a b : List ℕ) → feed t (a ++ b) ≡ feed (feed t a) b
unfolding feed
feed_append t [] b = refl
feed_append t (c ∷ cs) b = feed_append (feed_byte t c) cs b

-- ESC [
pub begin_sequence : (g : List Row) (r c : ℕ) (bs : List ℕ) → feed (resting g r c) (escape ∷ ascii "[" ∷ bs) ≡ feed (terminal g r c (first_number 0)) bs
unfolding feed feed_byte
begin_sequence g r c bs = refl

first_digit : (g : List Row) (r c n d : ℕ) (bs : List ℕ) → 48 ≤ d → d ≤ 57 → feed (terminal g r c (first_number n)) (d ∷ bs) ≡ feed (terminal g r c (first_number (more_number n d))) bs
unfolding feed feed_byte
first_digit g r c n d bs h k = rw (le-leb 48 d h, le-leb d 57 k)

second_digit : (g : List Row) (r c n m d : ℕ) (bs : List ℕ) → 48 ≤ d → d ≤ 57 → feed (terminal g r c (second_number n m)) (d ∷ bs) ≡ feed (terminal g r c (second_number n (more_number m d))) bs
unfolding feed feed_byte
second_digit g r c n m d bs h k = rw (le-leb 48 d h, le-leb d 57 k)

first_digits : (g : List Row) (r c : ℕ) (ds : List ℕ) (n m : ℕ) (bs : List ℕ) → Digits ds n m → feed (terminal g r c (first_number n)) (ds ++ bs) ≡ feed (terminal g r c (first_number m)) bs
first_digits g r c [] n m bs e = rw e
first_digits g r c (d ∷ ds) n m bs h = first_digit g r c n d (ds ++ bs) h.0 h.1 ∙ first_digits g r c ds (more_number n d) m bs h.2

second_digits : (g : List Row) (r c n : ℕ) (ds : List ℕ) (k m : ℕ) (bs : List ℕ) → Digits ds k m → feed (terminal g r c (second_number n k)) (ds ++ bs) ≡ feed (terminal g r c (second_number n m)) bs
second_digits g r c n [] k m bs e = rw e
second_digits g r c n (d ∷ ds) k m bs h = second_digit g r c n k d (ds ++ bs) h.0 h.1 ∙ second_digits g r c n ds (more_number k d) m bs h.2

semicolon : (g : List Row) (r c n : ℕ) (bs : List ℕ) → feed (terminal g r c (first_number n)) (ascii ";" ∷ bs) ≡ feed (terminal g r c (second_number n 0)) bs
unfolding feed feed_byte
semicolon g r c n bs = refl

first_end : (g : List Row) (r c n : ℕ) → feed (terminal g r c (first_number n)) (ascii "H" ∷ []) ≡ moved (resting g r c) n 0
unfolding feed feed_byte end_sequence granted
first_end g r c n = refl

second_end : (g : List Row) (r c n m : ℕ) → feed (terminal g r c (second_number n m)) (ascii "H" ∷ []) ≡ moved (resting g r c) n m
unfolding feed feed_byte end_sequence granted
second_end g r c n m = refl

-- a number n that was read, or left out, leads to row or column r counted from 0
moved_to : (g : List Row) (r₀ c₀ r c n m : ℕ) → n - 1 ≡ r → m - 1 ≡ c → r < length g → c < length (get_or g 0 []) → moved (resting g r₀ c₀) n m ≡ resting g r c
unfolding moved
moved_to g r₀ c₀ r c n m d e h k =
    let a : min (n - 1) (length g - 1) ≡ r = omega arith in
    let b : min (m - 1) (length (get_or g 0 []) - 1) ≡ c = omega arith in
    rw (a, b)

row_read : (g : List Row) (r₀ c₀ r : ℕ) → r < 9999 → (n : ℕ) × (n - 1 ≡ r) × ((bs : List ℕ) → feed (terminal g r₀ c₀ (first_number 0)) (row_number r ++ bs) ≡ feed (terminal g r₀ c₀ (first_number n)) bs)
row_read g r₀ c₀ r h =
    ⊎_elim
    (λ (e : r ≡ 0). (0, sym e, λ bs. rw (eq-eqb r 0 e)))
    (λ (e : (r ≡ 0 → ⊥)). (r + 1, omega arith, λ bs. rw (ne_eqb r 0 e) (first_digits g r₀ c₀ (decimal (r + 1)) 0 (r + 1) bs (decimal_digits (r + 1) (omega arith)))))
    (cases_eq r 0)

column_read : (g : List Row) (r₀ c₀ n c : ℕ) → c < 9999 → (m : ℕ) × (m - 1 ≡ c) × (feed (terminal g r₀ c₀ (first_number n)) (column_number c ++ (ascii "H" ∷ [])) ≡ moved (resting g r₀ c₀) n m)
column_read g r₀ c₀ n c h =
    ⊎_elim
    (λ (e : c ≡ 0). (0, sym e, rw (eq-eqb c 0 e) (first_end g r₀ c₀ n)))
    (λ (e : (c ≡ 0 → ⊥)). (c + 1, omega arith, rw (ne_eqb c 0 e) (semicolon g r₀ c₀ n (decimal (c + 1) ++ (ascii "H" ∷ [])) ∙ second_digits g r₀ c₀ n (decimal (c + 1)) 0 (c + 1) (ascii "H" ∷ []) (decimal_digits (c + 1) (omega arith)) ∙ second_end g r₀ c₀ n (c + 1))))
    (cases_eq c 0)

-- a move, from wherever the cursor is
pub feed_move : (g : List Row) (r₀ c₀ r c : ℕ) → r < 9999 → c < 9999 → r < length g → c < length (get_or g 0 []) → feed (resting g r₀ c₀) (move_bytes r c) ≡ resting g r c
feed_move g r₀ c₀ r c r9 c9 h k =
    let p = row_read g r₀ c₀ r r9 in
    let q = column_read g r₀ c₀ p.0 c c9 in
    begin_sequence g r₀ c₀ (row_number r ++ (column_number c ++ (ascii "H" ∷ [])))
    ∙ p.2 (column_number c ++ (ascii "H" ∷ []))
    ∙ q.2
    ∙ moved_to g r₀ c₀ r c p.0 q.0 p.1 q.1 h k

-- a printable byte within the row
feed_printable : (g : List Row) (r c x : ℕ) (bs : List ℕ) → is_printable x ≡ true → c < length (get_or g r []) → feed (resting g r c) (x ∷ bs) ≡ feed (resting (set g r (set (get_or g r []) c x)) r (c + 1)) bs
unfolding feed feed_byte written
feed_printable g r c x bs p h =
    let q = and_parts (leb 32 x) (leb x 126) p in
    let n : (x ≡ 27 → ⊥) = λ e. omega (arith, leb-true 32 x q.0) in
    rw (ne_eqb x 27 n, p, lt-ltb c (length (get_or g r [])) h)

overwritten_more : (row : Row) (c x : ℕ) (s : Row) → c < length row → overwritten (set row c x) (c + 1) s ≡ overwritten row c (x ∷ s)
overwritten_more row c x s h =
    let d : drop (c + 1 + length s) (set row c x) ≡ drop (c + 1 + length s) row = drop-set-lt (c + 1 + length s) row c x (omega arith) in
    let e : take (c + 1) (set row c x) ≡ take c row ++ (x ∷ []) = take_more_set row c x h in
    let f : c + 1 + length s ≡ c + suc (length s) = omega arith in
    rw (d, e, f, append_assoc)

-- a run of them, over a row that was just set
run_over : (g : List Row) (r c : ℕ) (row s : Row) → Printable s → r < length g → c + length s ≤ length row → feed (resting (set g r row) r c) s ≡ resting (set g r (overwritten row c s)) r (c + length s)
unfolding feed
run_over g r c row [] i h k = rw (add-zero c, take-append-drop c row)
run_over g r c row (x ∷ s) i h k =
    let z : get_or (set g r row) r [] ≡ row = get_or-set_same g r row [] h in
    let b : c < length (get_or (set g r row) r []) = rw z (omega arith) in
    let q : c + suc (length s) ≡ c + 1 + length s = omega arith in
    feed_printable (set g r row) r c x s i.0 b
    ∙ rw (z, set-set, ← overwritten_more row c x s (omega arith), q) (run_over g r (c + 1) (set row c x) s i.1 h (rw length-set (omega arith)))

pub feed_run : (g : List Row) (r c : ℕ) (row s : Row) → Printable s → r < length g → get_or g r [] ≡ row → c + length s ≤ length row → feed (resting g r c) s ≡ resting (set g r (overwritten row c s)) r (c + length s)
feed_run g r c row s i h e k =
    let f : set g r row ≡ g = rw (← e) (set-get_or g r []) in
    ap (λ (x : List Row). feed (resting x r c) s) (sym f) ∙ run_over g r c row s i h k

cut : (row : Row) (c : ℕ) → c ≤ length row → take (length row) (take c row ++ replicate (length row) blank) ≡ take c row ++ replicate (length row - c) blank
cut row c h =
    let l : length (take c row) ≡ c = length-take-le c row h in
    let y : length row ≡ length row - c + c = omega arith in
    let z : replicate (length row) blank ≡ replicate (length row - c) blank ++ replicate c blank = ap (λ (n : ℕ). replicate n blank) y ∙ sym (replicate-append-replicate (length row - c) c blank) in
    ap (λ (x : Row). take (length row) (take c row ++ x)) z
    ∙ ap (take (length row)) (sym (append_assoc (take c row) (replicate (length row - c) blank) (replicate c blank)))
    ∙ take_at (take c row ++ replicate (length row - c) blank) (replicate c blank) (length row) (rw (length-append, l, length-replicate) (omega arith))

-- the rest of a row made blank
pub feed_clear : (g : List Row) (r c : ℕ) (row : Row) → get_or g r [] ≡ row → c ≤ length row → feed (resting g r c) clear_bytes ≡ resting (set g r (take c row ++ replicate (length row - c) blank)) r c
unfolding feed feed_byte end_sequence granted cleared_right
feed_clear g r c row e h = rw (e, cut row c h)

-- a byte that ends a sequence, if there is one, and does nothing else
pub feed_cancel : (t : Terminal) (bs : List ℕ) → feed t (cancel_sequence ∷ bs) ≡ feed (resting t.grid t.row t.column) bs
unfolding feed feed_byte end_sequence granted
feed_cancel t bs = by t.phase refl
  where
    by : (p : Phase) → t.phase ≡ p → feed t (cancel_sequence ∷ bs) ≡ feed (resting t.grid t.row t.column) bs
    by ground e = rw e
    by escaped e = rw e
    by (first_number n) e = rw e
    by (second_number n m) e = rw e
