-- Held references, each with the tree that it stands for.
use Rattle.std.specs.Prelude.{ℕ, ◌+◌, ◌<◌, ◌≤◌, List, [], ◌∷◌, Some, None, Option}
use Rattle.cells.specs.declared.cell.Ref.{Ref}
use Rattle.cells.specs.Layout.{at, taken}
use Rattle.cells.specs.Tree.{Tree, Val, nodes}
use Rattle.cells.specs.Sound.{Sound}

-- a reference that is held, and its tree
pub data Item : Type 0 where
  item : ℕ → Tree → Item

abbrev pub ref : Item → ℕ
ref (item p v) = p

abbrev pub Stands : List ℕ → Item → Type 0
Stands m (item p v) = Val m p v

abbrev pub refs : List Item → List ℕ
refs [] = []
refs (x ∷ xs) = ref x ∷ refs xs

abbrev pub Stand : List ℕ → List Item → Type 0
Stand m [] = Unit {0}
Stand m (x ∷ xs) = Stands m x × Stand m xs

-- the heap is sound, these references are held, and stand for these trees
pub record Have (m : List ℕ) (xs : List Item) : Type 0 where
  pub sound : Sound m (refs xs)
  pub stand : Stand m xs

-- one more reference, where there is one
abbrev pub opt : Option Ref → Tree → List Item → List Item
opt None v xs = xs
opt (Some p) v xs = item p.0 v ∷ xs

-- how many cells the trees of all that is held have, each counted as often as it stands there
abbrev pub all_nodes : List Item → ℕ
all_nodes [] = 0
all_nodes (item p v ∷ xs) = nodes v + all_nodes xs

-- p stands for the tree, and is none or a cell that is held or named: it may be read and shared
pub record Lent (m : List ℕ) (p : ℕ) (v : Tree) : Type 0 where
  pub stands : Val m p v
  pub below : 1 ≤ p → p < taken m
  pub live : 1 ≤ p → 1 ≤ at m p 0
