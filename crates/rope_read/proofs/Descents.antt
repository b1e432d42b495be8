-- The steps of the way down a rope by one of its sums, while another is counted of the bytes that are passed.
use Rattle.std.proofs.Common.{◌≡◌, ℕ, ◌+◌, ◌<◌, ◌≤◌, ◌≢◌, List, [], ◌++◌, length, sym, refl, ap, ◌∙◌, arith, length-append}
use Rattle.std.proofs.lemmas.List.{append_assoc, append-nil}
use Rattle.cells.specs.Steps.{LeftRead, RightRead}
use Rattle.ropes.specs.Rope.{Rope, empty, leaf, node, bytes, height, Whole}
use Rattle.ropes.specs.Layout.{node_data, sum_at}
use Rattle.ropes.proofs.Joins.{inner_whole}
use Rattle.ropes.proofs.Balance.{inner_some}
use Rattle.ropes.proofs.Ends.{inner_size}
use Rattle.ropes.proofs.Cuts.{size_bytes}
use Rattle.ropes.proofs.Depths.{height_low}
use Rattle.ropes.proofs.Sums.{sum_small}
use Rattle.rope_cells.specs.Coded.{code}
use Rattle.rope_cells.specs.LeafBytes.{items}
use Rattle.rope_cells.specs.Lending.{Lends, LendsSome, LendsChildren}
use Rattle.rope_cells.specs.Leaves.{LendsLeaf}
use Rattle.rope_cells.proofs.Codes.{children_lent, children_whole, children_few}
use Rattle.rope_read.specs.Text.{text}
use Rattle.rope_read.specs.Locating.{Located}
use Rattle.rope_read.specs.declared.locating.Spot.{Spot}
use Rattle.rope_read.proofs.Texts.{text_is}

-- a rope of one level is a leaf, and any other a node
pub lends_leaf : (m : List ℕ) (p : ℕ) (x : Lends m p) → height x.rope ≡ 1 → LendsLeaf m p
lends_leaf m p x one = go x.rope refl one x.whole
  where
    go : (t : Rope) → x.rope ≡ t → height t ≡ 1 → Whole t → LendsLeaf m p
    go empty e h w = absurd (omega arith)
    go (leaf b) e h w = record { lends = x; xs = b; is = e }
    go (node l r) e h w = absurd (omega (arith, inner_some l w.0))

pub record Branch (m : List ℕ) (p high : ℕ) : Type 0 where
  pub children : LendsChildren m p
  pub low : height (node children.left children.right) ≤ high

pub branch : (m : List ℕ) (p : ℕ) (x : LendsSome m p) → height x.lends.rope ≢ 1 → Branch m p (height x.lends.rope)
branch m p x more = go x.lends.rope refl x.some more
  where
    go : (t : Rope) → x.lends.rope ≡ t → 1 ≤ height t → height t ≢ 1 → Branch m p (height t)
    go empty e s h = absurd (omega arith)
    go (leaf b) e s h = absurd (h refl)
    go (node l r) e s h = record { children = record { lends = x.lends; left = l; right = r; is = e }; low = omega arith }

-- the text of a node
module _ (m : List ℕ) (p : ℕ) (x : LendsChildren m p) where
  abbrev l : Rope
  l = x.left

  abbrev r : Rope
  r = x.right

  pub node_text : text m p ≡ bytes l ++ bytes r
  node_text = text_is m p x.lends ∙ ap bytes x.is

  abbrev pub left_lends : (q : ℕ) → LeftRead m p q → Lends m q
  left_lends q read =
      record {
        rope = l;
        rest = x.lends.rest;
        whole = inner_whole l (children_whole m p x).0;
        few = omega (arith, children_few m p x);
        have = x.lends.have;
        lent = read.lent (code l) (code r) (node_data l r) x.lends.rest x.lends.have (children_lent m p x);
      }

  abbrev pub right_lends : (q : ℕ) → RightRead m p q → Lends m q
  right_lends q read =
      record {
        rope = r;
        rest = x.lends.rest;
        whole = inner_whole r (children_whole m p x).1;
        few = omega (arith, children_few m p x);
        have = x.lends.have;
        lent = read.lent (code l) (code r) (node_data l r) x.lends.rest x.lends.have (children_lent m p x);
      }

  pub left_text : (q : ℕ) → LeftRead m p q → text m q ≡ bytes l
  left_text q read = text_is m q (left_lends q read)

  pub right_text : (q : ℕ) → RightRead m p q → text m q ≡ bytes r
  right_text q read = text_is m q (right_lends q read)

-- Of the rope p the part q is left to look in: the sum `by` reaches n there, and x and y are the sums of the bytes before it.
pub record Down (by of : List ℕ → ℕ) (m : List ℕ) (p n q x y : ℕ) : Type 0 where
  pub lends : Lends m q
  pub some : 1 ≤ height lends.rope
  pub before : List ℕ
  pub behind : List ℕ
  pub whole : text m p ≡ before ++ (bytes lends.rope ++ behind)
  pub by_is : x ≡ by before
  pub of_is : y ≡ of before
  pub reach : n ≤ by before + by (bytes lends.rope)
  pub late : 1 ≤ length before → by before < n

pub lends_low : {m : List ℕ} {p : ℕ} (x : Lends m p) → height x.rope ≤ 35
lends_low x = omega (arith, height_low x.rope x.whole x.few)

pub down_all : (by of : List ℕ → ℕ) → ((a : List ℕ) → by a ≤ length a) → ((a : List ℕ) → of a ≤ length a) → (m : List ℕ) (p n : ℕ) → LendsSome m p → n ≤ by (text m p) → Down by of m p n p 0 0
down_all by of small_by small_of m p n x reach =
    let is = text_is m p x.lends in
    record {
      lends = x.lends;
      some = x.some;
      before = [];
      behind = [];
      whole = is ∙ sym (append-nil (bytes x.lends.rope));
      by_is = omega (arith, small_by []);
      of_is = omega (arith, small_of []);
      reach = omega (arith, ap by is);
      late = λ h. absurd (omega arith);
    }

module _ {by of : List ℕ → ℕ} {m : List ℕ} {p n q x y : ℕ} (d : Down by of m p n q x y) where
  abbrev pub down_some : LendsSome m q
  down_some = record { lends = d.lends; some = d.some }

  pub located : (xs : List ℕ) → bytes d.lends.rope ≡ xs → (s : Spot) → items s.leaf ≡ xs → s.by ≡ x → s.of ≡ y → Located by of (text m p) n s
  located xs is s has is_x is_y =
      let e : bytes d.lends.rope ≡ items s.leaf = is ∙ sym has in
      record {
        before = d.before;
        behind = d.behind;
        whole = d.whole ∙ ap (λ z. d.before ++ (z ++ d.behind)) e;
        by_is = is_x ∙ d.by_is;
        of_is = is_y ∙ d.of_is;
        reach = omega (arith, d.reach, ap by e);
        late = d.late;
      }

  -- at a node it goes on
  module _ (z : Branch m q (height d.lends.rope)) where
    abbrev u : Rope
    u = z.children.left

    abbrev v : Rope
    v = z.children.right

    pub is_node : bytes d.lends.rope ≡ bytes u ++ bytes v
    is_node = sym (text_is m q d.lends) ∙ node_text m q z.children

    node_length : length (bytes d.lends.rope) ≡ length (bytes u) + length (bytes v)
    node_length = ap length is_node ∙ length-append (bytes u) (bytes v)

    whole_length : length (text m p) ≡ length d.before + (length (bytes u) + length (bytes v) + length d.behind)
    whole_length = omega (arith, ap length d.whole, length-append d.before (bytes d.lends.rope ++ d.behind), length-append (bytes d.lends.rope) d.behind, node_length)

    pub by_fits : ((a : List ℕ) → by a ≤ length a) → x + by (bytes u) ≤ length (text m p)
    by_fits small = omega (arith, whole_length, d.by_is, small d.before, small (bytes u))

    pub of_fits : ((a : List ℕ) → of a ≤ length a) → y + of (bytes u) ≤ length (text m p)
    of_fits small = omega (arith, whole_length, d.of_is, small d.before, small (bytes u))

    module _ {w : ℕ} (read : LeftRead m q w) where
      pub left_shorter : length (text m w) < length (text m q)
      left_shorter =
          omega (arith, ap length (left_text m q z.children w read), ap length (text_is m q d.lends), node_length, size_bytes v, inner_size v (children_whole m q z.children).1)

      pub left_lower : height u + 1 ≤ height d.lends.rope
      left_lower = omega (arith, z.low)

      abbrev pub down_left : n ≤ x + by (bytes u) → Down by of m p n w x y
      down_left le =
          record {
            lends = left_lends m q z.children w read;
            some = inner_some u (children_whole m q z.children).0;
            before = d.before;
            behind = bytes v ++ d.behind;
            whole = d.whole ∙ (ap (λ b. d.before ++ (b ++ d.behind)) is_node ∙ simp append_assoc);
            by_is = d.by_is;
            of_is = d.of_is;
            reach = omega (arith, d.by_is);
            late = d.late;
          }

    module _ {w : ℕ} (read : RightRead m q w) where
      pub right_shorter : length (text m w) < length (text m q)
      right_shorter =
          omega (arith, ap length (right_text m q z.children w read), ap length (text_is m q d.lends), node_length, size_bytes u, inner_size u (children_whole m q z.children).0)

      pub right_lower : height v + 1 ≤ height d.lends.rope
      right_lower = omega (arith, z.low)

      abbrev pub down_right : ((a b : List ℕ) → by (a ++ b) ≡ by a + by b) → ((a b : List ℕ) → of (a ++ b) ≡ of a + of b) → {b o : ℕ} → b ≡ by (bytes u) → o ≡ of (bytes u) → x + b < n → Down by of m p n w (x + b) (y + o)
      down_right add_by add_of is_b is_o less =
          let before_by = add_by d.before (bytes u) in
          record {
            lends = right_lends m q z.children w read;
            some = inner_some v (children_whole m q z.children).1;
            before = d.before ++ bytes u;
            behind = d.behind;
            whole = d.whole ∙ (ap (λ b. d.before ++ (b ++ d.behind)) is_node ∙ simp append_assoc);
            by_is = omega (arith, d.by_is, before_by);
            of_is = omega (arith, d.of_is, add_of d.before (bytes u));
            reach = omega (arith, d.reach, before_by, ap by is_node, add_by (bytes u) (bytes v));
            late = λ h. omega (arith, d.by_is, before_by);
          }

-- a sum of the left child
pub sum_bound : (m : List ℕ) (p k r : ℕ) (x : LendsChildren m p) → r ≡ sum_at (bytes x.left) k → r ≤ length (text m p)
sum_bound m p k r x e = omega (arith, sum_small (bytes x.left) k, ap length (node_text m p x), length-append (bytes x.left) (bytes x.right))
