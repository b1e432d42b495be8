-- The order of rows: the last one, then from the top, the cursor's row behind all others.
use Rattle.std.proofs.Common.{◌≡◌, ℕ, ◌+◌, ◌<◌, ◌≤◌, true, refl, arith}
use Rattle.std.proofs.lemmas.Bool.Decides.{nat_tests}
use Rattle.terminals.specs.Progress.{pending_from, visited, all_pending, none_pending}
use Rattle.terminals.proofs.Mixed.{Same, Without}

-- the last row, unless it is the cursor's
pub first_row : (last cursor n : ℕ) → (last ≡ cursor → ⊥) → Without all_pending (pending_from last cursor 0) last n
unfolding pending_from
first_row last cursor n d = (grind (arith, nat_tests), λ k h e. grind (arith, nat_tests))

pub first_skipped : (last cursor n : ℕ) → last ≡ cursor → Same all_pending (pending_from last cursor 0) n
unfolding pending_from
first_skipped last cursor n d k h = grind (arith, nat_tests)

-- the rows above it, but the cursor's
pub next_pending : (last cursor i : ℕ) → i < last → pending_from last cursor i i ≡ true
unfolding pending_from
next_pending last cursor i h = grind (arith, nat_tests)

pub next_row : (last cursor i n : ℕ) → i < last → (i ≡ cursor → ⊥) → Without (pending_from last cursor i) (pending_from last cursor (i + 1)) i n
unfolding pending_from
next_row last cursor i n h d = (grind (arith, nat_tests), λ k l e. grind (arith, nat_tests))

pub next_skipped : (last cursor i n : ℕ) → i ≡ cursor → Same (pending_from last cursor i) (pending_from last cursor (i + 1)) n
unfolding pending_from
next_skipped last cursor i n d k h = grind (arith, nat_tests)

-- the cursor's
pub cursor_pending : (last cursor i : ℕ) → pending_from last cursor i cursor ≡ true
unfolding pending_from
cursor_pending last cursor i = grind (arith, nat_tests)

pub cursor_row : (last cursor : ℕ) → Without (pending_from last cursor last) none_pending cursor (last + 1)
unfolding pending_from
cursor_row last cursor = (refl, λ k h d. grind (arith, nat_tests))

-- how many were looked at
pub visited_first : (last cursor : ℕ) → (last ≡ cursor → ⊥) → visited last cursor 0 ≡ 1
unfolding visited
visited_first last cursor d = grind (arith, nat_tests)

pub visited_next : (last cursor i : ℕ) → i < last → (i ≡ cursor → ⊥) → visited last cursor (i + 1) ≡ visited last cursor i + 1
unfolding visited
visited_next last cursor i h d = grind (arith, nat_tests)

pub visited_skipped : (last cursor i : ℕ) → i < last → i ≡ cursor → visited last cursor (i + 1) ≡ visited last cursor i
unfolding visited
visited_skipped last cursor i h d = grind (arith, nat_tests)

pub visited_all : (last cursor : ℕ) → cursor ≤ last → visited last cursor last ≡ last
unfolding visited
visited_all last cursor h = grind (arith, nat_tests)

pub visited_below : (last cursor i : ℕ) → i < last → (i ≡ cursor → ⊥) → visited last cursor i + 1 ≤ visited last cursor last
unfolding visited
visited_below last cursor i h d = grind (arith, nat_tests)
