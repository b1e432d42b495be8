-- The rows above the last, one turn of the loop after another.
use Rattle.std.proofs.Common.{◌≡◌, ℕ, ◌+◌, ◌*◌, ◌<◌, ◌≤◌, List, length, Option, ap, ◌∙◌, subst, mul-le-mul_right, add-mul, one-mul, arith}
use Rattle.spec.specs.Promises.{cost}
use Rattle.terminals.specs.Progress.{RowSent, row_cost, pending_from, visited, Sent}
use Rattle.terminals.proofs.Sending.{sent_row, sent_same, row_refused}
use Rattle.terminals.proofs.Orders.{next_pending, next_row, next_skipped, visited_next, visited_skipped, visited_below}
use Rattle.term_rows.specs.declared.position.Position.{Position}
use Rattle.term.specs.Scene.{Scene, Redrawable}
use Rattle.term.specs.Says.{RowSays}
use Rattle.term.proofs.Scenes.{before_row, after_row, height}

-- the same of an equal scene
pub row_says : (first last : List ℕ) (capacity columns columns' i : ℕ) (s s' : Scene) (at : Position) (r : Option Position) → columns ≡ columns' → s ≡ s' → RowSays first last capacity columns i s at r → RowSays first last capacity columns' i s' at r
row_says first last capacity columns columns' i s s' at r a b h = subst (λ (x : Scene). RowSays first last capacity columns' i x at r) b (subst (λ (x : ℕ). RowSays first last capacity x i s at r) a h)

module _ (columns bottom cursor : ℕ) (s : Scene) (d : Redrawable columns s) (h : bottom < height s) (first : List ℕ) (r c : ℕ) where
  -- what was written, with the rows above i done
  abbrev pub Upper : List ℕ → ℕ → ℕ → ℕ → Type 0
  Upper last i r' c' = (start : List ℕ) → Sent start first columns s.before s.after (pending_from bottom cursor 0) r c → Sent start last columns s.before s.after (pending_from bottom cursor i) r' c'

  pub upper_row : (mid last : List ℕ) (i r' c' r'' c'' : ℕ) → i < bottom → (i ≡ cursor → ⊥) → Upper mid i r' c' → RowSent mid last (height s) columns i (before_row s i) (after_row s i) r' c' r'' c'' → Upper last (i + 1) r'' c''
  upper_row mid last i r' c' r'' c'' k n u w start z =
      sent_row start mid last (height s) columns s.before s.after (pending_from bottom cursor i) (pending_from bottom cursor (i + 1)) i r' c' r'' c'' d.before d.after.rectangle (omega arith) (next_pending bottom cursor i k) (next_row bottom cursor i (height s) k n) (u start z) w

  pub upper_skip : (last : List ℕ) (i r' c' : ℕ) → i ≡ cursor → Upper last i r' c' → Upper last (i + 1) r' c'
  upper_skip last i r' c' e u start z = sent_same start last columns s.before s.after (pending_from bottom cursor i) (pending_from bottom cursor (i + 1)) r' c' (next_skipped bottom cursor i (height s) e) (u start z)

  pub upper_refused : (mid : List ℕ) (i r' c' capacity : ℕ) → i < bottom → (i ≡ cursor → ⊥) → Upper mid i r' c' → capacity < length mid + row_cost columns (before_row s i) (after_row s i) → (start : List ℕ) → Sent start first columns s.before s.after (pending_from bottom cursor 0) r c → capacity < length start + cost columns s.before s.after
  upper_refused mid i r' c' capacity k n u w start z =
      row_refused start mid (height s) columns s.before s.after (pending_from bottom cursor i) (pending_from bottom cursor (i + 1)) i r' c' capacity d.before d.after.rectangle (omega arith) (next_pending bottom cursor i k) (next_row bottom cursor i (height s) k n) (u start z) w

-- touches
once_more : (n k : ℕ) → (n + 1) * k ≡ n * k + k
once_more n k = add-mul n 1 k ∙ ap (λ (x : ℕ). n * k + x) (one-mul k)

pub touches_row : (bottom cursor i t₀ t u v k k' : ℕ) → i < bottom → (i ≡ cursor → ⊥) → k' ≡ k → t + v ≤ t₀ + visited bottom cursor i * k → u ≤ t + k' → u + v ≤ t₀ + visited bottom cursor (i + 1) * k
touches_row bottom cursor i t₀ t u v k k' h n e a b = rw (visited_next bottom cursor i h n) (omega (arith, once_more (visited bottom cursor i) k))

pub touches_skip : (bottom cursor i t₀ t v k : ℕ) → i < bottom → i ≡ cursor → t + v ≤ t₀ + visited bottom cursor i * k → t + v ≤ t₀ + visited bottom cursor (i + 1) * k
touches_skip bottom cursor i t₀ t v k h n a = rw (visited_skipped bottom cursor i h n) a

pub touches_refused : (bottom cursor i t₀ t u v k k' : ℕ) → i < bottom → (i ≡ cursor → ⊥) → k' ≡ k → t + v ≤ t₀ + visited bottom cursor i * k → u ≤ t + k' → u + v ≤ t₀ + visited bottom cursor bottom * k
touches_refused bottom cursor i t₀ t u v k k' h n e a b = omega (arith, once_more (visited bottom cursor i) k, mul-le-mul_right {m = visited bottom cursor i + 1} {n = visited bottom cursor bottom} k (visited_below bottom cursor i h n))
