-- What holds of every heap.
use Rattle.std.specs.Prelude.{◌≡◌, ℕ, ◌+◌, ◌<◌, ◌≤◌, ◌⊎◌, List, ◌++◌}
use Rattle.words.specs.Padded.{zeros}
use Rattle.cells.specs.Layout.{at, state, taken, first_dead}
use Rattle.cells.specs.Sound.{occ, Chain, Sound}
use Rattle.cells.specs.Have.{Item, refs, Have, all_nodes}

-- p is h or stands below it
pub data Under (m : List ℕ) (h : ℕ) : ℕ → Type 0 where
  here : Under m h h
  leftward : {q : ℕ} → Under m h q → 8 ≤ q → Under m h (at m q 1)
  rightward : {q : ℕ} → Under m h q → 8 ≤ q → Under m h (at m q 2)

-- No cell is lost: each cell that was taken is, or stands below, one that is held or one of the dead list, which will be taken again.
abbrev pub NoCellLost : Type 0
NoCellLost = (m held : List ℕ) → Sound m held → (p : ℕ) → 8 ≤ p → p < taken m
    → (h : ℕ) × ((0 < occ h held) ⊎ ((dead : List ℕ) × Chain m (first_dead m) dead × (0 < occ h dead))) × Under m h p

-- Where no cell is dead, no more cells were taken than the trees of what is held have, and the header's.
abbrev pub Counting : Type 0
Counting = (m : List ℕ) (items : List Item) → Have m items → first_dead m ≡ 0 → taken m ≤ 8 + all_nodes items

-- With zeros behind the row all that is held stands for the same trees, and the state is the same.
abbrev pub LongerRow : Type 0
LongerRow = (m : List ℕ) (items : List Item) (n : ℕ) → Have m items → Have (m ++ zeros n) items × (state (m ++ zeros n) ≡ state m)

-- Each held reference of a sound heap stands for a tree.
abbrev pub HasTrees : Type 0
HasTrees = (m held : List ℕ) → Sound m held → (items : List Item) × (refs items ≡ held) × Have m items
