-- Ranges of a rope, by its parts.
use Rattle.std.proofs.Common.{◌≡◌, ℕ, ◌+◌, ◌-◌, ◌<◌, ◌≤◌, cond, eqb, ltb, ◌≢◌, List, [], ◌∷◌, ◌++◌, length, take, drop, sym, refl, ap, ◌∙◌, ⊎_elim, arith, length-drop, take_all}
use lib.Seq.{take-append-le, take-append-add, drop-append-le, drop-append-add}
use Rattle.std.proofs.lemmas.Bool.{cases_lt, eq-eqb, ne_eqb, lt-ltb, le-ltb}
use Rattle.std.proofs.lemmas.Bool.Decides.{nat_tests}
use Rattle.cells.specs.Steps.{LeftRead, RightRead}
use Rattle.ropes.specs.Rope.{Rope, empty, leaf, node, bytes, size, height, Whole}
use Rattle.ropes.proofs.Balance.{inner_some}
use Rattle.ropes.proofs.Cuts.{size_bytes}
use Rattle.ropes.proofs.Ends.{inner_size}
use Rattle.rope_cells.specs.Lending.{Lends, LendsSome, LendsChildren, ShapeIs}
use Rattle.rope_cells.specs.Leaves.{LendsLeaf}
use Rattle.rope_cells.specs.declared.reading.Shape.{Shape}
use Rattle.rope_read.specs.Text.{text}
use Rattle.rope_read.specs.Ranges.{Sized, tag_price, path_price, price}
use Rattle.rope_read.proofs.Texts.{text_is}
use Rattle.rope_read.proofs.Descents.{lends_leaf, node_text, left_lends, right_lends, left_text, right_text}

-- a node has at least 48 bytes, and a leaf at most
sized_leaf : (t : Rope) (n : ℕ) → Whole t → size t ≡ n → 24 ≤ n → n < 48 → height t ≡ 1
sized_leaf empty n w e l h = absurd (omega arith)
sized_leaf (leaf b) n w e l h = refl
sized_leaf (node u v) n w e l h = absurd (omega (arith, inner_size u w.0, inner_size v w.1))

sized_node : (t : Rope) (n : ℕ) → Whole t → size t ≡ n → 48 < n → height t ≢ 1
sized_node empty n w e h f = omega arith
sized_node (leaf b) n w e h f = omega (arith, w.1)
sized_node (node u v) n w e h f = omega (arith, inner_some u w.0)

sized_some : (t : Rope) (n : ℕ) → Whole t → size t ≡ n → 24 ≤ n → 1 ≤ height t
sized_some empty n w e l = absurd (omega arith)
sized_some (leaf b) n w e l = omega arith
sized_some (node u v) n w e l = omega arith

pub some_of : (m : List ℕ) (p n : ℕ) → Sized m p n → LendsSome m p
some_of m p n x = record { lends = x.lends; some = sized_some x.lends.rope n x.lends.whole x.long x.large }

pub sized_high : {m : List ℕ} {p n : ℕ} (x : Sized m p n) → 1 ≤ height x.lends.rope
sized_high {n = n} x = sized_some x.lends.rope n x.lends.whole x.long x.large

-- the number of bytes tells a leaf from a node, but at 48
pub told_by_size : (m : List ℕ) (p n : ℕ) → n ≢ 48 → (x : Sized m p n) → ltb n 48 ≡ eqb (height x.lends.rope) 1
told_by_size m p n ne x =
    let t = x.lends.rope in
    ⊎_elim
    (λ (h : n < 48). lt-ltb n 48 h ∙ sym (eq-eqb (height t) 1 (sized_leaf t n x.lends.whole x.long x.large h)))
    (λ (h : 48 ≤ n). le-ltb n 48 h ∙ sym (ne_eqb (height t) 1 (sized_node t n x.lends.whole x.long (omega arith))))
    (cases_lt n 48)

pub told_by_shape : (m : List ℕ) (p n : ℕ) (s : Shape) → ((x : LendsSome m p) → ShapeIs x.lends.rope s) → (x : Sized m p n) → eqb s.height 1 ≡ eqb (height x.lends.rope) 1
told_by_shape m p n s is x = ap (λ h. eqb h 1) (is (record { lends = x.lends; some = sized_some x.lends.rope n x.lends.whole x.long x.large })).high

pub tag_price_one : (n : ℕ) → n ≡ 48 → tag_price n ≡ 1
unfolding tag_price
tag_price_one n e = ap (λ b. cond b 1 0) (eq-eqb n 48 e)

pub tag_price_none : (n : ℕ) → n ≢ 48 → tag_price n ≡ 0
unfolding tag_price
tag_price_none n e = ap (λ b. cond b 1 0) (ne_eqb n 48 e)

-- What the parts cost, from what the whole may cost. The part is lower than the whole.
module _ (f n mid from k : ℕ) (left : 24 ≤ mid) (right : 24 ≤ n - mid) where
  pub price_left : (g : ℕ) → g + 1 ≤ f → from + k ≤ mid → tag_price n + 2 + price g mid from k ≤ price f n from k
  unfolding tag_price path_price price
  price_left g low h = grind (arith, nat_tests)

  pub price_right : (g : ℕ) → g + 1 ≤ f → mid ≤ from → from + k ≤ n → tag_price n + 2 + price g (n - mid) (from - mid) k ≤ price f n from k
  unfolding tag_price path_price price
  price_right g low h l = grind (arith, nat_tests)

  pub price_both : (g h : ℕ) → g + 1 ≤ f → h + 1 ≤ f → from < mid → mid < from + k → from + k ≤ n → tag_price n + price g mid from (mid - from) + price h (n - mid) 0 (from + k - mid) ≤ 1 + price f n from k
  unfolding tag_price path_price price
  price_both g h low_left low_right less more e = grind (arith, nat_tests)

pub price_leaf : (f n from k : ℕ) → 1 ≤ f → 24 ≤ n → from + k ≤ n → tag_price n + 17 ≤ price f n from k
unfolding tag_price path_price price
price_leaf f n from k some large h = grind (arith, nat_tests)

pub price_all : (f n from k : ℕ) → f ≤ 35 → price f n from k ≤ k + 172
unfolding tag_price path_price price
price_all f n from k low = grind (arith, nat_tests)

-- a node, by the number of its bytes
pub record Forked (m : List ℕ) (p n high : ℕ) : Type 0 where
  pub children : LendsChildren m p
  pub low : height (node children.left children.right) ≤ high
  pub long : size children.left + size children.right ≡ n
  pub left : 24 ≤ size children.left
  pub right : 24 ≤ size children.right

pub forked : {m : List ℕ} {p n : ℕ} (x : Sized m p n) → height x.lends.rope ≢ 1 → Forked m p n (height x.lends.rope)
forked {m} {p} {n} x more = go x.lends.rope refl more x.long x.lends.whole
  where
    go : (t : Rope) → x.lends.rope ≡ t → height t ≢ 1 → size t ≡ n → Whole t → Forked m p n (height t)
    go empty e h long w = absurd (omega (arith, x.large))
    go (leaf b) e h long w = absurd (h refl)
    go (node l r) e h long w =
        record { children = record { lends = x.lends; left = l; right = r; is = e }; low = omega arith; long = long; left = inner_size l w.0; right = inner_size r w.1 }

module _ {m : List ℕ} {p n high : ℕ} (x : Forked m p n high) {mid : ℕ} (is : mid ≡ length (bytes x.children.left)) where
  abbrev l : Rope
  l = x.children.left

  abbrev r : Rope
  r = x.children.right

  pub middle_is : mid ≡ size l
  middle_is = is ∙ sym (size_bytes l)

  pub middle_bounds : (24 ≤ mid) × (24 ≤ n - mid) × (mid ≤ n)
  middle_bounds = (omega (arith, middle_is, x.left), omega (arith, middle_is, x.right, x.long), omega (arith, middle_is, x.long))

  abbrev pub left_sized : {q : ℕ} → LeftRead m p q → Sized m q mid
  left_sized {q} read = record { lends = left_lends m p x.children q read; long = sym middle_is; large = middle_bounds.0 }

  abbrev pub right_sized : {q : ℕ} → RightRead m p q → Sized m q (n - mid)
  right_sized {q} read = record { lends = right_lends m p x.children q read; long = omega (arith, middle_is, x.long); large = middle_bounds.1 }

  pub left_low : height l + 1 ≤ high
  left_low = omega (arith, x.low)

  pub right_low : height r + 1 ≤ high
  right_low = omega (arith, x.low)

  range_all : (from k : ℕ) → take k (drop from (text m p)) ≡ take k (drop from (bytes l ++ bytes r))
  range_all from k = ap (λ z. take k (drop from z)) (node_text m p x.children)

  pub range_left : {q : ℕ} (from k : ℕ) → LeftRead m p q → from + k ≤ mid → take k (drop from (text m q)) ≡ take k (drop from (text m p))
  range_left {q} from k read h =
      let long = is in
      ap (λ z. take k (drop from z)) (left_text m p x.children q read)
      ∙ (sym (take-append-le k (drop from (bytes l)) (bytes r) (omega (arith, length-drop from (bytes l))))
      ∙ (ap (take k) (sym (drop-append-le from (bytes l) (bytes r) (omega arith))) ∙ sym (range_all from k)))

  pub range_right : {q : ℕ} (from k : ℕ) → RightRead m p q → mid ≤ from → take k (drop (from - mid) (text m q)) ≡ take k (drop from (text m p))
  range_right {q} from k read h =
      let e : length (bytes l) + (from - mid) ≡ from = omega (arith, is) in
      ap (λ z. take k (drop (from - mid) z)) (right_text m p x.children q read)
      ∙ (ap (take k) (sym (drop-append-add (bytes l) (bytes r) (from - mid)))
      ∙ (ap (λ z. take k (drop z (bytes l ++ bytes r))) e ∙ sym (range_all from k)))

  pub range_both : {q s : ℕ} (from k : ℕ) → LeftRead m p q → RightRead m p s → from ≤ mid → mid ≤ from + k → take (mid - from) (drop from (text m q)) ++ take (from + k - mid) (drop 0 (text m s)) ≡ take k (drop from (text m p))
  range_both {q} {s} from k left_read right_read h j =
      let front = drop from (bytes l) in
      let long : length front ≡ mid - from = omega (arith, length-drop from (bytes l), is) in
      let e : length front + (from + k - mid) ≡ k = omega arith in
      ap (λ z. take (mid - from) (drop from z) ++ take (from + k - mid) (drop 0 (text m s))) (left_text m p x.children q left_read)
      ∙ (ap (λ z. z ++ take (from + k - mid) (drop 0 (text m s))) (take_all (mid - from) front (omega arith))
      ∙ (ap (λ z. front ++ take (from + k - mid) z) (right_text m p x.children s right_read)
      ∙ (sym (take-append-add front (bytes r) (from + k - mid))
      ∙ (ap (λ z. take z (front ++ bytes r)) e
      ∙ (ap (take k) (sym (drop-append-le from (bytes l) (bytes r) (omega (arith, is)))) ∙ sym (range_all from k))))))

pub sized_text : (m : List ℕ) (p n : ℕ) (x : Sized m p n) → length (text m p) ≡ n
sized_text m p n x = ap length (text_is m p x.lends) ∙ (sym (size_bytes x.lends.rope) ∙ x.long)

-- The whole rope.

pub range_none : (into xs : List ℕ) → length into ≡ 0 → into ≡ take (length into) xs
range_none [] xs e = refl
range_none (x ∷ into) xs e = absurd (omega arith)

pub short_leaf : (m : List ℕ) (p : ℕ) (x : Lends m p) → length (text m p) < 24 → 1 ≤ length (text m p) → LendsLeaf m p
short_leaf m p x few some = lends_leaf m p x (go x.rope x.whole (omega (arith, is)) (omega (arith, is)))
  where
    is : length (text m p) ≡ size x.rope
    is = ap length (text_is m p x) ∙ sym (size_bytes x.rope)

    go : (t : Rope) → Whole t → size t < 24 → 1 ≤ size t → height t ≡ 1
    go empty w f s = absurd (omega arith)
    go (leaf b) w f s = refl
    go (node u v) w f s = absurd (omega (arith, inner_size u w.0, inner_size v w.1))

pub sized_all : {m : List ℕ} {p n : ℕ} (x : Lends m p) → n ≡ length (text m p) → 24 ≤ n → Sized m p n
sized_all {m} {p} x is large = record { lends = x; long = sym (is ∙ (ap length (text_is m p x) ∙ sym (size_bytes x.rope))); large = large }
