use Rattle.std.proofs.Common.{◌≡◌, ℕ, ◌+◌, ◌-◌, Bool, false, eqb, List, ◌++◌, length, take, drop, sym, ap, ◌∙◌, subst, arith}
use Rattle.std.proofs.lemmas.Bool.{eqb-true, eqb-false}
use Rattle.cells.specs.Steps.{LeftRead, RightRead}
use Rattle.ropes.specs.Rope.{bytes, height}
use Rattle.rope_cells.specs.Lending.{LendsChildren}
use Rattle.rope_read.specs.Text.{text}
use Rattle.rope_read.specs.Ranges.{Sized, price}
use Rattle.rope_read.proofs.Descents.{lends_leaf}
use Rattle.rope_read.proofs.Spans.{Forked, forked, sized_high, sized_text, middle_bounds, left_sized, right_sized, left_low, right_low, range_left, range_right, range_both, price_leaf, price_left, price_right, price_both}
use Rattle.rope_read.proofs.ranges.+read_part.Goals as goal

-- the node that is opened
node_of : {m : List ℕ} {p n : ℕ} {b : Bool} (x : Sized m p n) → ((y : Sized m p n) → b ≡ eqb (height y.lends.rope) 1) → b ≡ false → Forked m p n (height x.lends.rope)
node_of x is no_leaf = forked x (eqb-false _ _ (sym (is x) ∙ no_leaf))

-- and the number of bytes to its left, where that was read
record Opened (m m' : List ℕ) (p n high mid : ℕ) : Type 0 where
  node : Forked m p n high
  is : mid ≡ length (bytes node.children.left)
  same : m' ≡ m

opened : {m m1 m2 : List ℕ} {p n mid : ℕ} {b : Bool} (x : Sized m p n) → ((y : Sized m p n) → b ≡ eqb (height y.lends.rope) 1) → b ≡ false → m1 ≡ m → ((z : LendsChildren m1 p) → mid ≡ length (bytes z.left)) → m2 ≡ m1 → Opened m m2 p n (height x.lends.rope) mid
opened {p = p} {mid = mid} x tells no_leaf e is e2 =
    let y = node_of x tells no_leaf in
    record { node = y; is = subst (λ z. (w : LendsChildren z p) → mid ≡ length (bytes w.left)) e is y.children; same = e2 ∙ e }

pub read_in_leaf-requires : goal.read_in_leaf-requires
read_in_leaf-requires g t c =
    let x = c.requires.rope in
    let test = c.is_leaf.ensures in
    record {
      rope = rw test.same (lends_leaf _ _ x.lends (eqb-true _ _ (sym (test.value x) ∙ c.if-is_leaf.true)));
      inside = rw test.same (omega (arith, sized_text _ _ c.args.size x, c.requires.inside));
    }

pub returns-then-is_leaf-clause-touches : goal.returns-then-is_leaf-clause-touches
returns-then-is_leaf-clause-touches g t c = λ x. omega (arith, c.is_leaf.ensures.touches, c.read_in_leaf.ensures.touches, price_leaf (height x.lends.rope) c.args.size c.args.from (length c.args.into.now) (sized_high x) x.large c.requires.inside)

pub left_sum-middle-requires : goal.left_sum-middle-requires
left_sum-middle-requires g t c = rw c.is_leaf.ensures.same (node_of c.requires.rope c.is_leaf.ensures.value c.if-is_leaf.false).children

pub read_part-requires : goal.read_part-requires
read_part-requires g t c κs within =
    let row = g.W.Words.row in
    let m = row c.args.words.now in
    let test = c.is_leaf.ensures in
    let mid = c.left_sum-middle.ensures in
    let o = opened c.requires.rope test.value c.if-is_leaf.false test.same mid.value mid.same in
    let b = middle_bounds o.node o.is in
    let q = c.left-q.ensures in
    let read : LeftRead m c.args.p.0 c.left-q.result.0 = rw o.same at q.lent in
    (omega (arith, b, c.decreases), (within, (rw (q.same ∙ o.same) (left_sized o.node o.is read), c.if-from-into.true)))

pub returns-then-from-into-clause-value : goal.returns-then-from-into-clause-value
returns-then-from-into-clause-value g t c =
    let row = g.W.Words.row in
    let m = row c.args.words.now in
    let test = c.is_leaf.ensures in
    let mid = c.left_sum-middle.ensures in
    let o = opened c.requires.rope test.value c.if-is_leaf.false test.same mid.value mid.same in
    let q = c.left-q.ensures in
    let read : LeftRead m c.args.p.0 c.left-q.result.0 = rw o.same at q.lent in
    rw (q.same ∙ o.same) at c.read_part.ensures.value ∙ range_left o.node o.is c.args.from (length c.args.into.now) read c.if-from-into.true

pub returns-then-from-into-clause-touches : goal.returns-then-from-into-clause-touches
returns-then-from-into-clause-touches g t c = λ x.
    let row = g.W.Words.row in
    let m = row c.args.words.now in
    let test = c.is_leaf.ensures in
    let mid = c.left_sum-middle.ensures in
    let o = opened x test.value c.if-is_leaf.false test.same mid.value mid.same in
    let b = middle_bounds o.node o.is in
    let q = c.left-q.ensures in
    let read : LeftRead m c.args.p.0 c.left-q.result.0 = rw o.same at q.lent in
    let down = (rw (q.same ∙ o.same) at c.read_part.ensures.touches) (left_sized o.node o.is read) in
    omega (arith, test.touches, mid.touches, q.touches, down, price_left _ c.args.size _ c.args.from (length c.args.into.now) b.0 b.1 _ (left_low o.node o.is) c.if-from-into.true)

pub read_part-requires-then-middle-from : goal.read_part-requires-then-middle-from
read_part-requires-then-middle-from g t c κs within =
    let row = g.W.Words.row in
    let m = row c.args.words.now in
    let test = c.is_leaf.ensures in
    let mid = c.left_sum-middle.ensures in
    let o = opened c.requires.rope test.value c.if-is_leaf.false test.same mid.value mid.same in
    let b = middle_bounds o.node o.is in
    let q = c.right-q.ensures in
    let read : RightRead m c.args.p.0 c.right-q.result.0 = rw o.same at q.lent in
    (omega (arith, b, c.decreases), (within, (rw (q.same ∙ o.same) (right_sized o.node o.is read), omega (arith, c.requires.inside, c.if-middle-from.true, b.2))))

pub returns-then-middle-from-clause-value : goal.returns-then-middle-from-clause-value
returns-then-middle-from-clause-value g t c =
    let row = g.W.Words.row in
    let m = row c.args.words.now in
    let test = c.is_leaf.ensures in
    let mid = c.left_sum-middle.ensures in
    let o = opened c.requires.rope test.value c.if-is_leaf.false test.same mid.value mid.same in
    let q = c.right-q.ensures in
    let read : RightRead m c.args.p.0 c.right-q.result.0 = rw o.same at q.lent in
    rw (q.same ∙ o.same) at c.read_part-then-middle-from.ensures.value ∙ range_right o.node o.is c.args.from (length c.args.into.now) read c.if-middle-from.true

pub returns-then-middle-from-clause-touches : goal.returns-then-middle-from-clause-touches
returns-then-middle-from-clause-touches g t c = λ x.
    let row = g.W.Words.row in
    let m = row c.args.words.now in
    let test = c.is_leaf.ensures in
    let mid = c.left_sum-middle.ensures in
    let o = opened x test.value c.if-is_leaf.false test.same mid.value mid.same in
    let b = middle_bounds o.node o.is in
    let q = c.right-q.ensures in
    let read : RightRead m c.args.p.0 c.right-q.result.0 = rw o.same at q.lent in
    let down = (rw (q.same ∙ o.same) at c.read_part-then-middle-from.ensures.touches) (right_sized o.node o.is read) in
    omega (arith, test.touches, mid.touches, q.touches, down, price_right _ c.args.size _ c.args.from (length c.args.into.now) b.0 b.1 _ (right_low o.node o.is) c.if-middle-from.true c.requires.inside)

pub read_part-requires-2 : goal.read_part-requires-2
read_part-requires-2 g t c κs within =
    let row = g.W.Words.row in
    let m = row c.args.words.now in
    let test = c.is_leaf.ensures in
    let mid = c.left_sum-middle.ensures in
    let o = opened c.requires.rope test.value c.if-is_leaf.false test.same mid.value mid.same in
    let b = middle_bounds o.node o.is in
    let q = c.left-l.ensures in
    let read : LeftRead m c.args.p.0 c.left-l.result.0 = rw o.same at q.lent in
    (omega (arith, b, c.decreases), (within, (rw (q.same ∙ o.same) (left_sized o.node o.is read), omega (arith, c.split_at_mut-front.ensures.front_len, c.if-middle-from.false))))

pub read_part-requires-3 : goal.read_part-requires-3
read_part-requires-3 g t c κs within =
    let row = g.W.Words.row in
    let m = row c.args.words.now in
    let test = c.is_leaf.ensures in
    let mid = c.left_sum-middle.ensures in
    let o = opened c.requires.rope test.value c.if-is_leaf.false test.same mid.value mid.same in
    let b = middle_bounds o.node o.is in
    let q = c.right-r.ensures in
    let last : row c.read_part-2.new.words ≡ m = c.read_part-2.ensures.same ∙ (c.left-l.ensures.same ∙ o.same) in
    let read : RightRead m c.args.p.0 c.right-r.result.0 = rw last at q.lent in
    (omega (arith, b, c.decreases), (within, (rw (q.same ∙ last) (right_sized o.node o.is read), omega (arith, c.split_at_mut-front.ensures.back_len, c.if-middle-from.false, c.requires.inside, b.2))))

pub returns-clause-value : goal.returns-clause-value
returns-clause-value g t c =
    let row = g.W.Words.row in
    let m = row c.args.words.now in
    let test = c.is_leaf.ensures in
    let mid = c.left_sum-middle.ensures in
    let o = opened c.requires.rope test.value c.if-is_leaf.false test.same mid.value mid.same in
    let cut = c.split_at_mut-front in
    let from = c.args.from in
    let k = length c.args.into.now in
    let front = c.left-l.ensures in
    let back = c.right-r.ensures in
    let last : row c.read_part-2.new.words ≡ m = c.read_part-2.ensures.same ∙ (front.same ∙ o.same) in
    let left_read : LeftRead m c.args.p.0 c.left-l.result.0 = rw o.same at front.lent in
    let right_read : RightRead m c.args.p.0 c.right-r.result.0 = rw last at back.lent in
    let long : length cut.result.1.now ≡ from + k - c.left_sum-middle.result = omega (arith, cut.ensures.back_len, c.if-from-into.false, c.if-middle-from.false) in
    let first : c.read_part-2.new.into ≡ take (c.left_sum-middle.result - from) (drop from (text m c.left-l.result.0)) = (rw (front.same ∙ o.same) at c.read_part-2.ensures.value) ∙ ap (λ z. take z (drop from (text m c.left-l.result.0))) cut.ensures.front_len in
    let second : c.read_part-3.new.into ≡ take (from + k - c.left_sum-middle.result) (drop 0 (text m c.right-r.result.0)) = (rw (back.same ∙ last) at c.read_part-3.ensures.value) ∙ ap (λ z. take z (drop 0 (text m c.right-r.result.0))) long in
    ap (λ v. v ++ c.read_part-3.new.into) first
    ∙ (ap (λ v. take (c.left_sum-middle.result - from) (drop from (text m c.left-l.result.0)) ++ v) second
    ∙ range_both o.node o.is from k left_read right_read (omega (arith, c.if-middle-from.false)) (omega (arith, c.if-from-into.false)))

pub returns-clause-touches : goal.returns-clause-touches
returns-clause-touches g t c = λ x.
    let row = g.W.Words.row in
    let m = row c.args.words.now in
    let test = c.is_leaf.ensures in
    let mid = c.left_sum-middle.ensures in
    let o = opened x test.value c.if-is_leaf.false test.same mid.value mid.same in
    let b = middle_bounds o.node o.is in
    let cut = c.split_at_mut-front.ensures in
    let from = c.args.from in
    let k = length c.args.into.now in
    let front = c.left-l.ensures in
    let back = c.right-r.ensures in
    let last : row c.read_part-2.new.words ≡ m = c.read_part-2.ensures.same ∙ (front.same ∙ o.same) in
    let left_read : LeftRead m c.args.p.0 c.left-l.result.0 = rw o.same at front.lent in
    let right_read : RightRead m c.args.p.0 c.right-r.result.0 = rw last at back.lent in
    let long : length c.split_at_mut-front.result.1.now ≡ from + k - c.left_sum-middle.result = omega (arith, cut.back_len, c.if-from-into.false, c.if-middle-from.false) in
    let first = (rw (front.same ∙ o.same) at c.read_part-2.ensures.touches) (left_sized o.node o.is left_read) in
    let second = (rw (back.same ∙ last) at c.read_part-3.ensures.touches) (right_sized o.node o.is right_read) in
    let cost_front = ap (price (height o.node.children.left) c.left_sum-middle.result from) cut.front_len in
    let cost_back = ap (price (height o.node.children.right) (c.args.size - c.left_sum-middle.result) 0) long in
    let cost = price_both _ c.args.size _ from k b.0 b.1 _ _ (left_low o.node o.is) (right_low o.node o.is) (omega (arith, c.if-middle-from.false)) (omega (arith, c.if-from-into.false)) c.requires.inside in
    omega (arith, test.touches, mid.touches, front.touches, first, back.touches, second, cost, cost_front, cost_back)
