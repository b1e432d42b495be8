-- What a rope's cells say is so: each step of a look at all of them.
use Rattle.std.proofs.Common.{◌≡◌, ℕ, ◌+◌, ◌<◌, ◌≤◌, ◌≢◌, true, Bool, List, length, Some, None, Option, sym, refl, ap, ◌∙◌, subst, arith, length-append}
use Rattle.std.specs.Bool.{then_some}
use Rattle.std.proofs.lemmas.Bool.{le-leb, eq-eqb}
use Rattle.cells.specs.Steps.{LeftRead, RightRead}
use Rattle.ropes.specs.Rope.{Rope, empty, leaf, node, bytes, size, height, Inner, Whole}
use Rattle.ropes.proofs.Balance.{inner_some}
use Rattle.ropes.proofs.Ends.{inner_size}
use Rattle.ropes.proofs.Cuts.{size_bytes}
use Rattle.ropes.proofs.Depths.{height_low}
use Rattle.ropes.proofs.Joins.{inner_whole}
use Rattle.rope_cells.specs.Lending.{Lends, LendsSome, LendsChildren}
use Rattle.rope_cells.specs.Leaves.{LendsLeaf}
use Rattle.rope_cells.proofs.Codes.{children_few}
use Rattle.rope_read.specs.Text.{text}
use Rattle.rope_read.proofs.Texts.{text_is}
use Rattle.rope_read.proofs.Descents.{lends_leaf, left_lends, right_lends, left_text, right_text, node_text}
use Rattle.rope_text.specs.declared.balance.Extent.{Extent}
use Rattle.rope_text.specs.Balance.{LendsInner, extent_of, is_leaf_of, is_node_of}

pub extent_is : {h h' b b' : ℕ} → h ≡ h' → b ≡ b' → ◌≡◌ {A = Extent} (record { height = h; bytes = b }) (record { height = h'; bytes = b' })
extent_is e f = rw (e, f) refl

abbrev pub inner_lends_some : {m : List ℕ} {p : ℕ} → LendsInner m p → LendsSome m p
inner_lends_some x = record { lends = x.lends; some = inner_some x.lends.rope x.inner }

pub told_high : {e : Extent} (t : Rope) → e ≡ extent_of t → e.height ≡ height t
told_high t is = rw is refl

-- another row that is the same
pub measured : {m m' : List ℕ} {q : ℕ} {r : Option Extent} → m' ≡ m → ((y : LendsInner m' q) → r ≡ Some (extent_of y.lends.rope)) → (y : LendsInner m q) → r ≡ Some (extent_of y.lends.rope)
measured {q = q} {r = r} e f = subst (λ z. (y : LendsInner z q) → r ≡ Some (extent_of y.lends.rope)) e f

pub counted : {m m' : List ℕ} {q n : ℕ} → m' ≡ m → ((y : LendsChildren m' q) → n ≡ length (bytes y.left)) → (y : LendsChildren m q) → n ≡ length (bytes y.left)
counted {q = q} {n = n} e f = subst (λ z. (y : LendsChildren z q) → n ≡ length (bytes y.left)) e f

pub read_as : {m m' : List ℕ} {q : ℕ} {xs : List ℕ} → m' ≡ m → ((y : LendsLeaf m' q) → xs ≡ y.xs) → (y : LendsLeaf m q) → xs ≡ y.xs
read_as {q = q} {xs = xs} e f = subst (λ z. (y : LendsLeaf z q) → xs ≡ y.xs) e f

pub none_some : {t : Extent} → None ≡ Some t → ⊥
none_some e = subst (λ o. tells o) e tt
  where
    tells : Option Extent → Type 0
    tells None = Unit {0}
    tells (Some t) = ⊥

-- what is told of a leaf
pub leaf_told : (t : Rope) → Inner t → height t ≡ 1 → is_leaf_of (extent_of t) (length (bytes t)) ≡ true
leaf_told empty i h = absurd i
leaf_told (leaf b) i h = rw (le-leb 24 (length b) i.0, le-leb (length b) 48 i.1, eq-eqb (length b) (length b) refl) refl
leaf_told (node l r) i h = absurd (omega (arith, inner_some l i.0))

pub node_told : (t l r : Rope) → t ≡ node l r → Inner (node l r) → is_node_of (extent_of t) (length (bytes l)) (extent_of l) (extent_of r) ≡ true
node_told t l r is i =
    subst (λ z. is_node_of (extent_of z) (length (bytes l)) (extent_of l) (extent_of r) ≡ true) (sym is)
    (rw (le-leb (height l) (height r + 1) i.2, le-leb (height r) (height l + 1) i.3, eq-eqb (length (bytes l)) (size l) (sym (size_bytes l)))
    (rw (eq-eqb (height (node l r)) (height (node l r)) refl, eq-eqb (size l + size r) (size l + size r) refl) refl))

pub some_is : {a b : Extent} → Some a ≡ Some b → a ≡ b
some_is {a} e = ap held e
  where
    held : Option Extent → Extent
    held None = a
    held (Some t) = t

-- a leaf has the rope's bytes
pub leaf_read : {m : List ℕ} {p : ℕ} (x : Lends m p) (y : LendsLeaf m p) → y.xs ≡ bytes x.rope
leaf_read {m} {p} x y = sym (sym (text_is m p x) ∙ (text_is m p y.lends ∙ ap bytes y.is))

pub leaf_judged : {m : List ℕ} {p : ℕ} (x : LendsInner m p) (one : height x.lends.rope ≡ 1) {told : Extent} {n : ℕ} {yes : Bool} {r : Option Extent} → told ≡ extent_of x.lends.rope → n ≡ length (bytes x.lends.rope) → yes ≡ is_leaf_of told n
    → r ≡ then_some yes told → r ≡ Some (extent_of x.lends.rope)
leaf_judged x one {told} {n} told_is n_is yes_is r_is =
    let t = x.lends.rope in
    let good = yes_is ∙ (ap (λ z. is_leaf_of z n) told_is ∙ (ap (λ z. is_leaf_of (extent_of t) z) n_is ∙ leaf_told t x.inner one)) in
    r_is ∙ (ap (λ z. then_some z told) good ∙ ap Some told_is)

-- the children of a part of more than one leaf
pub record Forks (t : Rope) : Type 0 where
  pub left : Rope
  pub right : Rope
  pub is : t ≡ node left right

pub forks : (t : Rope) → Inner t → height t ≢ 1 → Forks t
forks empty i h = absurd i
forks (leaf b) i h = absurd (h refl)
forks (node l r) i h = record { left = l; right = r; is = refl }

module _ {m : List ℕ} {p : ℕ} (x : LendsInner m p) (more : height x.lends.rope ≢ 1) where
  abbrev pub forked : LendsChildren m p
  forked =
      let f = forks x.lends.rope x.inner more in
      record { lends = x.lends; left = f.left; right = f.right; is = f.is }

  pub both_inner : Inner (node forked.left forked.right)
  both_inner = subst Inner forked.is x.inner

  abbrev pub left_inner : (q : ℕ) → LeftRead m p q → LendsInner m q
  left_inner q read = record { lends = left_lends m p forked q read; inner = both_inner.0 }

  abbrev pub right_inner : (q : ℕ) → RightRead m p q → LendsInner m q
  right_inner q read = record { lends = right_lends m p forked q read; inner = both_inner.1 }

  pub left_less : (q : ℕ) → LeftRead m p q → length (text m q) < length (text m p)
  left_less q read =
      omega (
        arith,
        ap length (left_text m p forked q read),
        ap length (node_text m p forked),
        length-append (bytes forked.left) (bytes forked.right),
        inner_size forked.right both_inner.1,
        size_bytes forked.right,
      )

  pub right_less : (q : ℕ) → RightRead m p q → length (text m q) < length (text m p)
  right_less q read =
      omega (
        arith,
        ap length (right_text m p forked q read),
        ap length (node_text m p forked),
        length-append (bytes forked.left) (bytes forked.right),
        inner_size forked.left both_inner.0,
        size_bytes forked.left,
      )

  pub both_few : size forked.left + size forked.right < 536870912
  both_few = children_few m p forked

  pub left_high : height forked.left < 36
  left_high = height_low forked.left (inner_whole forked.left both_inner.0) (omega (arith, both_few))

  pub right_high : height forked.right < 36
  right_high = height_low forked.right (inner_whole forked.right both_inner.1) (omega (arith, both_few))

  module _ {told a b : Extent} {before : ℕ} where
    pub node_judged : {yes : Bool} {r : Option Extent} → told ≡ extent_of x.lends.rope → before ≡ length (bytes forked.left) → a ≡ extent_of forked.left → b ≡ extent_of forked.right → yes ≡ is_node_of told before a b → r ≡ then_some yes told
        → r ≡ Some (extent_of x.lends.rope)
    node_judged told_is before_is a_is b_is yes_is r_is =
        let t = x.lends.rope in
        let l = forked.left in
        let r = forked.right in
        let good =
        yes_is
        ∙ (ap (λ z. is_node_of z before a b) told_is
        ∙ (ap (λ z. is_node_of (extent_of t) z a b) before_is
        ∙ (ap (λ z. is_node_of (extent_of t) (length (bytes l)) z b) a_is
        ∙ (ap (λ z. is_node_of (extent_of t) (length (bytes l)) (extent_of l) z) b_is ∙ node_told t l r forked.is both_inner)))) in
        r_is ∙ (ap (λ z. then_some z told) good ∙ ap Some told_is)

pub more_of : {m : List ℕ} {p : ℕ} {e : Extent} (x : LendsInner m p) → ((y : LendsSome m p) → e ≡ extent_of y.lends.rope) → e.height ≢ 1 → height x.lends.rope ≢ 1
more_of x tells h = λ one. h (told_high _ (tells (inner_lends_some x)) ∙ one)

pub one_of : {m : List ℕ} {p : ℕ} {e : Extent} (x : LendsInner m p) → ((y : LendsSome m p) → e ≡ extent_of y.lends.rope) → e.height ≡ 1 → height x.lends.rope ≡ 1
one_of x tells h = sym (told_high _ (tells (inner_lends_some x))) ∙ h

-- a whole rope of one leaf, or of more
pub leaf_some : (t : Rope) → Whole t → height t ≡ 1 → 1 ≤ length (bytes t)
leaf_some empty w h = absurd (omega arith)
leaf_some (leaf b) w h = w.0
leaf_some (node l r) w h = absurd (omega (arith, inner_some l w.0))

pub whole_inner : (t : Rope) → Whole t → 1 ≤ height t → height t ≢ 1 → Inner t
whole_inner empty w s h = absurd (omega arith)
whole_inner (leaf b) w s h = absurd (h refl)
whole_inner (node l r) w s h = w

module _ {m : List ℕ} {p : ℕ} {e : Extent} (x : LendsSome m p) (tells : (y : LendsSome m p) → e ≡ extent_of y.lends.rope) where
  pub root_inner : e.height ≢ 1 → LendsInner m p
  root_inner h = record { lends = x.lends; inner = whole_inner x.lends.rope x.lends.whole x.some (λ one. h (told_high _ (tells x) ∙ one)) }

  pub root_leaf : e.height ≡ 1 → LendsLeaf m p
  root_leaf h = lends_leaf m p x.lends (sym (told_high _ (tells x)) ∙ h)

  pub root_leaf_some : (h : e.height ≡ 1) → 1 ≤ length (root_leaf h).xs
  root_leaf_some h = omega (arith, ap length (leaf_read x.lends (root_leaf h)), leaf_some x.lends.rope x.lends.whole (sym (told_high _ (tells x)) ∙ h))
