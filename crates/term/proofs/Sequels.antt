-- One row behind what was sent so far.
use Rattle.std.proofs.Common.{◌≡◌, ℕ, ◌+◌, ◌*◌, ◌<◌, ◌≤◌, Bool, true, List, ◌++◌, Some, None, Option, sym, refl, ap, ◌∙◌, subst, mul-le-mul_right, add-mul, one-mul, arith}
use Rattle.std.proofs.lemmas.Bool.Decides.{nat_tests}
use Rattle.terminals.specs.Drawing.{step_bytes}
use Rattle.terminals.specs.Progress.{all_pending, none_pending, pending_from, visited, Sent}
use Rattle.terminals.proofs.Mixed.{Without}
use Rattle.terminals.proofs.Sending.{sent_none, sent_row, sent_same, row_refused}
use Rattle.terminals.proofs.Orders.{first_row, first_skipped, cursor_pending, cursor_row, visited_first, visited_all}
use Rattle.term_rows.specs.declared.position.Position.{Position}
use Rattle.term.specs.Scene.{Scene, Redrawable}
use Rattle.term.specs.Says.{RowSays, UpperSays, SentSays}
use Rattle.term.proofs.Scenes.{height, after_height}

pub row_behind : (first mid last : List ℕ) (capacity columns i : ℕ) (p q : ℕ → Bool) (s : Scene) (at : Position) (r : Option Position) → Redrawable columns s → i < height s → p i ≡ true → Without p q i (height s) → Sent first mid columns s.before s.after p at.row at.column → RowSays mid last capacity columns i s at r → SentSays first last capacity columns q s r
row_behind first mid last capacity columns i p q s at (Some to) d h t w z k = sent_row first mid last (height s) columns s.before s.after p q i at.row at.column to.row to.column d.before d.after.rectangle h t w z k
row_behind first mid last capacity columns i p q s at None d h t w z k = row_refused first mid (height s) columns s.before s.after p q i at.row at.column capacity d.before d.after.rectangle h t w z k

-- the beginning, with the cursor where it was
pub begun : (first : List ℕ) (columns : ℕ) (s : Scene) (at : Position) → Redrawable columns s → at.row ≡ s.before.cursor_row → at.column ≡ s.before.cursor_column → Sent first first columns s.before s.after all_pending at.row at.column
begun first columns s at d a b = rw (a, b) (sent_none first columns s.before s.after (sym (after_height columns s d)))

pub last_skipped : (first : List ℕ) (columns bottom : ℕ) (cursor : ℕ) (s : Scene) (at : Position) → Redrawable columns s → bottom ≡ cursor → at.row ≡ s.before.cursor_row → at.column ≡ s.before.cursor_column → Sent first first columns s.before s.after (pending_from bottom cursor 0) at.row at.column
last_skipped first columns bottom cursor s at d e a b = sent_same first first columns s.before s.after all_pending (pending_from bottom cursor 0) at.row at.column (first_skipped bottom cursor (height s) e) (begun first columns s at d a b)

pub last_sent : (first last : List ℕ) (capacity columns bottom cursor : ℕ) (s : Scene) (at : Position) (r : Option Position) → Redrawable columns s → bottom < height s → (bottom ≡ cursor → ⊥) → at.row ≡ s.before.cursor_row → at.column ≡ s.before.cursor_column → RowSays first last capacity columns bottom s at r → SentSays first last capacity columns (pending_from bottom cursor 0) s r
last_sent first last capacity columns bottom cursor s at r d h n a b k = row_behind first first last capacity columns bottom all_pending (pending_from bottom cursor 0) s at r d h refl (first_row bottom cursor (height s) n) (begun first columns s at d a b) k

pub last_touches : (bottom cursor t u k : ℕ) → (bottom ≡ cursor → ⊥) → u ≤ t + k → u ≤ t + visited bottom cursor 0 * k
last_touches bottom cursor t u k n h = rw (visited_first bottom cursor n, one-mul k) h

-- the same of an equal scene
pub upper_says : (first last : List ℕ) (capacity capacity' columns columns' bottom cursor : ℕ) (s s' : Scene) (at : Position) (r : Option Position) → capacity ≡ capacity' → columns ≡ columns' → s ≡ s' → UpperSays first last capacity columns bottom cursor s at r → UpperSays first last capacity' columns' bottom cursor s' at r
upper_says first last capacity capacity' columns columns' bottom cursor s s' at r a b e h = subst (λ (x : Scene). UpperSays first last capacity' columns' bottom cursor x at r) e (subst (λ (x : ℕ). UpperSays first last capacity' x bottom cursor s at r) b (subst (λ (x : ℕ). UpperSays first last x columns bottom cursor s at r) a h))

-- the cursor's row, behind all others
pub cursor_sent : (first mid last : List ℕ) (capacity capacity' columns bottom cursor : ℕ) (s : Scene) (at : Position) (r : Option Position) → Redrawable columns s → bottom + 1 ≡ height s → cursor ≡ s.after.cursor_row → capacity ≡ capacity' → Sent first mid columns s.before s.after (pending_from bottom cursor bottom) at.row at.column → RowSays mid last capacity columns cursor s at r → SentSays first last capacity' columns none_pending s r
cursor_sent first mid last capacity capacity' columns bottom cursor s at r d h e f z k =
    subst (λ (x : ℕ). SentSays first last x columns none_pending s r) f
    (row_behind first mid last capacity columns cursor (pending_from bottom cursor bottom) none_pending s at r d (omega (arith, d.after.row_within)) (cursor_pending bottom cursor bottom) (subst (λ (n : ℕ). Without (pending_from bottom cursor bottom) none_pending cursor n) h (cursor_row bottom cursor)) z k)

-- a step to an equal place
pub step_to : (first last : List ℕ) (r c i i' k k' : ℕ) → last ≡ first ++ step_bytes r c i k → i ≡ i' → k ≡ k' → last ≡ first ++ step_bytes r c i' k'
step_to first last r c i i' k k' h a b = rw (← a, ← b) h

-- touches
visited_few : (bottom cursor : ℕ) → visited bottom cursor 0 ≤ 1
unfolding visited
visited_few bottom cursor = grind (arith, nat_tests)

pub touches_of_last : (bottom cursor rows t u k : ℕ) → 0 < rows → u ≤ t + visited bottom cursor 0 * k → u ≤ t + rows * k
touches_of_last bottom cursor rows t u k h a = omega (arith, mul-le-mul_right {m = visited bottom cursor 0} {n = rows} k (omega (arith, visited_few bottom cursor)))

pub touches_of_upper : (bottom cursor t u v k k' : ℕ) → cursor ≤ bottom → k' ≡ k → u ≤ t + visited bottom cursor 0 * k → v + visited bottom cursor 0 * k' ≤ u + visited bottom cursor bottom * k' → v ≤ t + bottom * k
touches_of_upper bottom cursor t u v k k' h e a b =
    let z : visited bottom cursor bottom ≡ bottom = visited_all bottom cursor h in
    let c : v + visited bottom cursor 0 * k ≤ u + bottom * k = subst (λ (x : ℕ). v + visited bottom cursor 0 * k ≤ u + x * k) z (subst (λ (x : ℕ). v + visited bottom cursor 0 * x ≤ u + visited bottom cursor bottom * x) e b) in
    omega arith

pub touches_below : (bottom rows t u k : ℕ) → bottom + 1 ≡ rows → u ≤ t + bottom * k → u ≤ t + rows * k
touches_below bottom rows t u k h a = omega (arith, mul-le-mul_right {m = bottom} {n = rows} k (omega arith))

pub touches_of_all : (bottom rows t u v k k' : ℕ) → bottom + 1 ≡ rows → k' ≡ k → u ≤ t + bottom * k → v ≤ u + k' → v ≤ t + rows * k
touches_of_all bottom rows t u v k k' h e a b =
    let z : rows * k ≡ bottom * k + k = ap (λ (x : ℕ). x * k) (sym h) ∙ add-mul bottom 1 k ∙ ap (λ (x : ℕ). bottom * k + x) (one-mul k) in
    omega arith
