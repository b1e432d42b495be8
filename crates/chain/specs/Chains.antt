-- Lists of cells, each with its number as its first data word.
use Rattle.std.specs.Prelude.{◌≡◌, ℕ, zero, suc, ◌+◌, ◌<◌, List, [], ◌∷◌, length, replicate, slice_set}
use Rattle.cells.specs.Layout.{state}
use Rattle.cells.specs.declared.cell.Ref.{Ref}
use Rattle.cells.specs.declared.making.Node.{Node}
use Rattle.cells.specs.Tree.{Tree, none, node}
use Rattle.cells.specs.Have.{item, Have}
use Rattle.cells.specs.Steps.{Full}

abbrev pub numbered : ℕ → List ℕ
numbered k = k ∷ replicate 12 0

abbrev pub numbered_node : ℕ → Ref → Ref → Node
numbered_node k l r = record { left = l; right = r; «data» = numbered k }

-- n cells, the last one first
abbrev pub chained : ℕ → Tree
chained zero = none
chained (suc k) = node none (chained k) (numbered k)

-- cell n below cell n + 1
abbrev pub paired : ℕ → Tree
paired n = node (node none none (numbered n)) none (numbered (n + 1))

pub record Pair (m : List ℕ) (p : ℕ) : Type 0 where
  pub number : ℕ
  pub have : Have m (item p (paired number) ∷ [])

-- from m to m' the pair p became the first reference of the state, which alone holds it, and x is the number of its upper cell
pub record Stored (m m' : List ℕ) (p x : ℕ) : Type 0 where
  pub long : length m' ≡ length m
  pub have : (n : ℕ) → Have m (item p (paired n) ∷ []) → Have m' (item p (paired n) ∷ [])
  pub upper : (n : ℕ) → Have m (item p (paired n) ∷ []) → x ≡ n + 1
  pub state : state m' ≡ slice_set (state m) 0 p

-- nothing but a list of n cells is held, which is as long as was asked, or there is no room for more
pub record Built (m : List ℕ) (p n most : ℕ) : Type 0 where
  pub have : Have m (item p (chained n) ∷ [])
  pub full : n < most → Full m
