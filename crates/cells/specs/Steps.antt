-- What the calls ask and do.
use Rattle.std.specs.Prelude.{◌≡◌, ℕ, ◌+◌, ◌*◌, ◌<◌, ◌≤◌, ◌≢◌, ◌⊎◌, List, [], ◌∷◌, length, replicate, slice_index}
use Rattle.cells.specs.Layout.{state, fresh, taken, first_dead}
use Rattle.cells.specs.Tree.{Tree, node, Val}
use Rattle.cells.specs.Have.{Item, item, Have, Lent, all_nodes}

-- the row is as long as it was, and the state the same
pub record Kept (m m' : List ℕ) : Type 0 where
  pub long : length m' ≡ length m
  pub state : state m' ≡ state m

-- from m to m' a heap was begun: nothing is held, and the state is 0
pub record Begun (m m' : List ℕ) : Type 0 where
  pub long : length m' ≡ length m
  pub have : Have m' []
  pub state : state m' ≡ replicate 112 0
  pub same : m' ≡ fresh m

-- from m to m' what is held or lent stays, whatever became of the state
pub record Stays (m m' : List ℕ) : Type 0 where
  pub long : length m' ≡ length m
  pub have : (items : List Item) → Have m items → Have m' items
  pub lent : (q : ℕ) (v : Tree) (rest : List Item) → Have m rest → Lent m q v → Lent m' q v

-- p may be read: it is a node of a heap
pub record Reading (m : List ℕ) (p : ℕ) : Type 0 where
  pub rest : List Item
  pub left : Tree
  pub right : Tree
  pub word : List ℕ
  pub have : Have m rest
  pub lent : Lent m p (node left right word)

-- q is the left child of p, and lent as p is
pub record LeftRead (m : List ℕ) (p q : ℕ) : Type 0 where
  pub lent : (u v : Tree) (w : List ℕ) (rest : List Item) → Have m rest → Lent m p (node u v w) → Lent m q u

pub record RightRead (m : List ℕ) (p q : ℕ) : Type 0 where
  pub lent : (u v : Tree) (w : List ℕ) (rest : List Item) → Have m rest → Lent m p (node u v w) → Lent m q v

-- x is data word k of p
pub record WordRead (m : List ℕ) (p k x : ℕ) : Type 0 where
  pub is : (u v : Tree) (w : List ℕ) → Val m p (node u v w) → x ≡ slice_index w k

-- xs are the data words of p
pub record WordsRead (m : List ℕ) (p : ℕ) (xs : List ℕ) : Type 0 where
  pub are : (u v : Tree) (w : List ℕ) → Val m p (node u v w) → xs ≡ w

-- p may be shared: it is lent, and few references are held
pub record Sharing (m : List ℕ) (p : ℕ) : Type 0 where
  pub rest : List Item
  pub tree : Tree
  pub have : Have m rest
  pub lent : Lent m p tree
  pub few : length rest < 2147483648

-- from m to m' the reference p was made once more
pub record Shared (m m' : List ℕ) (p : ℕ) : Type 0 where
  pub have : (v : Tree) (rest : List Item) → Lent m p v → Have m rest → Have m' (item p v ∷ rest)
  pub lent : (q : ℕ) (v : Tree) → Lent m q v → Lent m' q v

-- p is held
pub record Holding (m : List ℕ) (p : ℕ) : Type 0 where
  pub tree : Tree
  pub rest : List Item
  pub have : Have m (item p tree ∷ rest)

-- from m to m' the reference p was let go
pub record Released (m m' : List ℕ) (p : ℕ) : Type 0 where
  pub have : (v : Tree) (rest : List Item) → Have m (item p v ∷ rest) → Have m' rest

-- l and r are held
pub record Making (m : List ℕ) (l r : ℕ) : Type 0 where
  pub left : Tree
  pub right : Tree
  pub rest : List Item
  pub have : Have m (item l left ∷ (item r right ∷ rest))

-- from m to m' the references l and r went into a new node d
pub record Made (m m' : List ℕ) (d l r : ℕ) (w : List ℕ) : Type 0 where
  pub have : (u v : Tree) (rest : List Item) → Have m (item l u ∷ (item r v ∷ rest)) → Have m' (item d (node u v w) ∷ rest)

-- l and r are held, and d is the first dead cell
pub record Reusing (m : List ℕ) (d l r : ℕ) : Type 0 where
  pub making : Making m l r
  pub first : d ≡ first_dead m
  pub some : d ≢ 0

-- from m to m' the references l and r were let go
pub record Dropped (m m' : List ℕ) (l r : ℕ) : Type 0 where
  pub have : (u v : Tree) (rest : List Item) → Have m (item l u ∷ (item r v ∷ rest)) → Have m' rest

-- There is no dead cell and no room for another. The trees of all that is held then have as many cells as were taken, the header's 8 aside.
pub record Full (m : List ℕ) : Type 0 where
  pub no_dead : first_dead m ≡ 0
  pub no_room : (268435456 ≤ taken m) ⊎ (length m < 16 * taken m + 16)
  pub few : (items : List Item) → Have m items → taken m ≤ 8 + all_nodes items

-- there is no room, and nothing was changed
pub record Refused (m m' : List ℕ) : Type 0 where
  pub same : m' ≡ m
  pub full : Full m

-- there is no room, and from m to m' the references l and r were let go
pub record GaveUp (m m' : List ℕ) (l r : ℕ) : Type 0 where
  pub full : Full m
  pub dropped : Dropped m m' l r

-- the node p is held, and few others are
pub record Opening (m : List ℕ) (p : ℕ) : Type 0 where
  pub left : Tree
  pub right : Tree
  pub word : List ℕ
  pub rest : List Item
  pub have : Have m (item p (node left right word) ∷ rest)
  pub few : length rest < 2147483640

-- from m to m' the node p was let go, and its children l and r are held in its place
pub record Parted (m m' : List ℕ) (p l r : ℕ) : Type 0 where
  pub have : (u v : Tree) (x : List ℕ) (rest : List Item) → Have m (item p (node u v x) ∷ rest) → Have m' (item l u ∷ (item r v ∷ rest))

-- the same, and w are its data words
pub record Opened (m m' : List ℕ) (p l r : ℕ) (w : List ℕ) : Type 0 where
  pub parted : Parted m m' p l r
  pub word : (u v : Tree) (x : List ℕ) (rest : List Item) → Have m (item p (node u v x) ∷ rest) → w ≡ x
