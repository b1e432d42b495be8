-- What the data words of a rope's cell are.
use Rattle.std.proofs.Common.{◌≡◌, ℕ, zero, suc, ◌+◌, ◌-◌, ◌/◌, ◌%◌, ◌<◌, ◌≤◌, false, ltb, ◌≢◌, List, [], ◌∷◌, ◌++◌, length, get_or, sym, refl, ap, ◌∙◌, subst, ⊎_elim, arith, length-append}
use Rattle.cells.specs.Tree.{none, Val, nodes}
use Rattle.cells.specs.Have.{Lent}
use Rattle.cells.specs.Steps.{Reading, WordRead, WordsRead}
use Rattle.ropes.specs.Rope.{Rope, empty, leaf, node, bytes, size, height, cells, is_small, leaf_max, Octets, Whole}
use Rattle.ropes.specs.Layout.{sums_of, sum_at, pack, digit, node_tag, leaf_data, node_data}
use Rattle.ropes.proofs.Balance.{inner_some}
use Rattle.ropes.proofs.Packs.{digit_pack}
use Rattle.ropes.proofs.Sums.{used, length_sums, sum_unused, sum_small, sums_digits, sum_first}
use Rattle.std.proofs.lemmas.List.{ext_get_or, get_or_append_left, get_or-append_right}
use Rattle.std.proofs.lemmas.Bool.{cases_lt}
use Rattle.rope_cells.specs.Coded.{code, tag_of}
use Rattle.rope_cells.specs.Lending.{Lends, LendsSome, LendsNode, LendsChildren}
use Rattle.rope_cells.specs.Tags.{TagIs}
use Rattle.rope_cells.specs.declared.reading.Tag.TheVariants.{Leaf, Node}
use Rattle.rope_cells.specs.Leaves.{LendsLeaf}
use Rattle.rope_cells.proofs.Packings.{leaf_first, left_sum}
pub use Rattle.rope_cells.proofs.Packings.{leaf_tag_low}

pub nodes_code : (t : Rope) → nodes (code t) ≡ cells t
nodes_code empty = refl
nodes_code (leaf b) = refl
nodes_code (node l r) = omega (arith, nodes_code l, nodes_code r)

-- a rope that is lent and not empty may be read
pub reading : (m : List ℕ) (p : ℕ) → LendsSome m p → Reading m p
reading m p x = go x.lends.rope x.some x.lends.lent
  where
    go : (t : Rope) → 1 ≤ height t → Lent m p (code t) → Reading m p
    go empty h lent = absurd (omega arith)
    go (leaf b) h lent = record { rest = x.lends.rest; left = none; right = none; word = leaf_data b; have = x.lends.have; lent = lent }
    go (node l r) h lent = record { rest = x.lends.rest; left = code l; right = code r; word = node_data l r; have = x.lends.have; lent = lent }

pub tag_read : (m : List ℕ) (p w : ℕ) → WordRead m p 0 w → (x : LendsSome m p) → w ≡ tag_of x.lends.rope
unfolding node_data
tag_read m p w read x = go x.lends.rope x.some x.lends.lent
  where
    go : (t : Rope) → 1 ≤ height t → Lent m p (code t) → w ≡ tag_of t
    go empty h lent = absurd (omega arith)
    go (leaf b) h lent = read.is none none (leaf_data b) lent.stands ∙ leaf_first b
    go (node l r) h lent = read.is (code l) (code r) (node_data l r) lent.stands

pub node_tag_low : (h : ℕ) → node_tag h % 64 ≡ 63
unfolding node_tag
node_tag_low h = omega arith

pub node_tag_high : (h : ℕ) → node_tag h / 64 ≡ h
unfolding node_tag
node_tag_high h = omega arith

pub node_some : (m : List ℕ) (p : ℕ) → LendsNode m p → LendsSome m p
node_some m p x = record { lends = x.lends; some = omega (arith, x.high) }

-- a tag tells a node from a leaf
pub tag_high : (t : Rope) (w : ℕ) → Whole t → 1 ≤ height t → w ≡ tag_of t → w % 64 ≡ 63 → 2 ≤ height t
tag_high empty w ok some is low = absurd (omega arith)
tag_high (leaf b) w ok some is low = absurd (omega (arith, ap (λ z. z % 64) is, leaf_tag_low b ok.1, ok.1))
tag_high (node l r) w ok some is low = omega (arith, inner_some l ok.0)

pub tag_node : (t : Rope) (w : ℕ) → Whole t → 1 ≤ height t → w ≡ tag_of t → w % 64 ≡ 63 → TagIs t (Node (w / 64))
tag_node empty w ok some is low = absurd (omega arith)
tag_node (leaf b) w ok some is low = absurd (omega (arith, ap (λ z. z % 64) is, leaf_tag_low b ok.1, ok.1))
tag_node (node l r) w ok some is low = (omega (arith, inner_some l ok.0), ap (λ z. z / 64) is ∙ node_tag_high _)

pub tag_leaf : (t : Rope) (w : ℕ) → Whole t → 1 ≤ height t → w ≡ tag_of t → w % 64 ≢ 63 → TagIs t (Leaf w)
tag_leaf empty w ok some is low = absurd (omega arith)
tag_leaf (leaf b) w ok some is low = (refl, is)
tag_leaf (node l r) w ok some is low = absurd (low (ap (λ z. z % 64) is ∙ node_tag_low _))

pub leaf_few : (t : Rope) → Whole t → height t ≡ 1 → length (bytes t) ≤ leaf_max
leaf_few empty ok low = absurd (omega arith)
leaf_few (leaf b) ok low = ok.1
leaf_few (node l r) ok low = absurd (omega (arith, inner_some l ok.0))

-- a sum of a leaf, from its tag
pub sum_leaf : (t : Rope) (k w v : ℕ) → Whole t → height t ≡ 1 → w ≡ pack (sums_of (bytes t)) → v ≡ digit w k → v ≡ sum_at (bytes t) k
sum_leaf t k w v ok low is e = let few = leaf_few t ok low in e ∙ (ap (λ z. digit z k) is ∙ digit_pack (sums_of (bytes t)) k (sums_digits (bytes t) (omega arith)))

pub small_leaf : (t : Rope) (w v : ℕ) → Whole t → height t ≡ 1 → w ≡ pack (sums_of (bytes t)) → v ≡ digit w 0 → ltb v 24 ≡ is_small t
small_leaf empty w v ok low is e = absurd (omega arith)
small_leaf (leaf b) w v ok low is e = ap (λ z. ltb z 24) (sum_leaf (leaf b) 0 w v ok low is e ∙ sum_first b)
small_leaf (node l r) w v ok low is e = absurd (omega (arith, inner_some l ok.0))

pub small_node : (t : Rope) → 2 ≤ height t → false ≡ is_small t
small_node empty high = absurd (omega arith)
small_node (leaf b) high = absurd (omega arith)
small_node (node l r) high = refl

-- data word 1 + k of a node
pub sum_read : (m : List ℕ) (p k w : ℕ) → k < 6 → WordRead m p (1 + k) w → (x : LendsNode m p) → w ≡ sum_at (bytes x.lends.rope) k
unfolding node_data
sum_read m p k w h read x = go x.lends.rope x.high x.lends.lent
  where
    go : (t : Rope) → 2 ≤ height t → Lent m p (code t) → w ≡ sum_at (bytes t) k
    go empty high lent = absurd (omega arith)
    go (leaf b) high lent = absurd (omega arith)
    go (node l r) high lent =
        let e : 1 + k ≡ suc k = omega arith in
        let long = length_sums (bytes l ++ bytes r) in
        read.is (code l) (code r) (node_data l r) lent.stands ∙ (ap (λ z. get_or (node_data l r) z 0) e ∙ get_or_append_left (sums_of (bytes l ++ bytes r)) (sums_of (bytes l)) 0 k (omega arith))

zeros : (j : ℕ) → ◌≡◌ {A = ℕ} (get_or (0 ∷ 0 ∷ 0 ∷ 0 ∷ []) j 0) 0
zeros zero = refl
zeros (suc zero) = refl
zeros (suc (suc zero)) = refl
zeros (suc (suc (suc zero))) = refl
zeros (suc (suc (suc (suc j)))) = refl

-- sums that are read one by one
pub sums_read : (b s : List ℕ) → length s ≡ used → ((j : ℕ) → j < used → get_or s j 0 ≡ sum_at b j) → s ++ (0 ∷ 0 ∷ 0 ∷ 0 ∷ []) ≡ sums_of b
sums_read b s long low =
    ext_get_or 0 (s ++ (0 ∷ 0 ∷ 0 ∷ 0 ∷ [])) (sums_of b) (omega (arith, length-append s (0 ∷ 0 ∷ 0 ∷ 0 ∷ []), length_sums b))
    (λ i _. ⊎_elim
    (λ (h : i < used). get_or_append_left s (0 ∷ 0 ∷ 0 ∷ 0 ∷ []) 0 i (omega arith) ∙ low i h)
    (λ (h : used ≤ i). get_or-append_right s (0 ∷ 0 ∷ 0 ∷ 0 ∷ []) used i 0 long h ∙ (zeros (i - used) ∙ sym (sum_unused b i h)))
    (cases_lt i used))

-- a node whose children are known
module _ (m : List ℕ) (p : ℕ) (x : LendsChildren m p) where
  pub children_lent : Lent m p (code (node x.left x.right))
  children_lent = subst (λ t. Lent m p (code t)) x.is x.lends.lent

  pub children_whole : Whole (node x.left x.right)
  children_whole = subst Whole x.is x.lends.whole

  pub children_few : size (node x.left x.right) < 536870912
  children_few = omega (arith, ap size x.is, x.lends.few)

  pub children_reading : Reading m p
  children_reading = record { rest = x.lends.rest; left = code x.left; right = code x.right; word = node_data x.left x.right; have = x.lends.have; lent = children_lent }

pub left_sum_read : (m : List ℕ) (p k w : ℕ) → WordRead m p (7 + k) w → (x : LendsChildren m p) → w ≡ sum_at (bytes x.left) k
left_sum_read m p k w read x =
    read.is (code x.left) (code x.right) (node_data x.left x.right) (children_lent m p x).stands ∙ left_sum x.left x.right k

-- no reference is an empty rope
pub none_empty : (m : List ℕ) (p : ℕ) (t : Rope) → p ≡ 0 → Val m p (code t) → t ≡ empty
none_empty m p empty e v = refl
none_empty m p (leaf b) e v = absurd (omega (arith, v.0))
none_empty m p (node l r) e v = absurd (omega (arith, v.0))

pub some_height : (m : List ℕ) (p : ℕ) (t : Rope) → p ≢ 0 → Val m p (code t) → 1 ≤ height t
some_height m p empty e v = absurd (e v)
some_height m p (leaf b) e v = omega arith
some_height m p (node l r) e v = omega arith

-- a rope that is lent, by its reference
abbrev pub lends_some : (m : List ℕ) (p : ℕ) → p ≢ 0 → Lends m p → LendsSome m p
lends_some m p some x = record { lends = x; some = some_height m p x.rope some x.lent.stands }

pub sum_empty : (m : List ℕ) (p k : ℕ) → p ≡ 0 → (x : Lends m p) → 0 ≡ sum_at (bytes x.rope) k
sum_empty m p k zero_p x =
    let e = none_empty m p x.rope zero_p x.lent.stands in
    let f : sum_at (bytes x.rope) k ≡ sum_at [] k = ap (λ t. sum_at (bytes t) k) e in
    omega (arith, f, sum_small [] k)

-- the data words of a leaf
pub leaf_read : (m : List ℕ) (p : ℕ) (w : List ℕ) → WordsRead m p w → (x : LendsLeaf m p) → (length x.xs ≤ 48) × Octets x.xs × (w ≡ leaf_data x.xs)
leaf_read m p w read x =
    let ok : Whole (leaf x.xs) = subst Whole x.is x.lends.whole in
    let lent : Lent m p (code (leaf x.xs)) = subst (λ t. Lent m p (code t)) x.is x.lends.lent in
    (ok.1, ok.2, read.are none none (leaf_data x.xs) lent.stands)
