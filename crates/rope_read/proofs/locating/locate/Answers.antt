use Rattle.std.proofs.Common.{◌≡◌, ℕ, ◌<◌, ◌≤◌, List, sym, refl, ap, ◌∙◌, subst, arith, rules}
use Rattle.std.proofs.lemmas.Bool.{leb-true, leb-false}
use Rattle.cells.specs.Steps.{LeftRead, RightRead}
use Rattle.ropes.specs.Rope.{bytes, height}
use Rattle.rope_cells.specs.LeafBytes.{items}
use Rattle.rope_cells.specs.Lending.{LendsSome, LendsChildren, ShapeIs}
use Rattle.rope_cells.specs.Leaves.{LendsLeaf}
use Rattle.rope_cells.specs.declared.reading.Shape.{Shape}
use Rattle.rope_read.proofs.Descents.{Branch, branch, lends_low, lends_leaf, down_all, down_some, located, by_fits, of_fits, left_shorter, left_lower, down_left, right_shorter, right_lower, down_right}
use Rattle.rope_read.proofs.Texts.{text_is, text_few}
use Rattle.rope_read.proofs.locating.locate.Goals as goal

-- the node that is opened, and what is read of it
abbrev node_of : {m m' : List ℕ} {q : ℕ} {s : Shape} → m' ≡ m → ((x : LendsSome m' q) → ShapeIs x.lends.rope s) → 1 < s.height → (x : LendsSome m q) → Branch m q (height x.lends.rope)
node_of {q = q} {s = s} e is more x = branch _ q x (λ one. omega (arith, (subst (λ z. (x : LendsSome z q) → ShapeIs x.lends.rope s) e is x).high))

sum_of : (sums : List ℕ → ℕ) {m m' : List ℕ} {q r : ℕ} → m' ≡ m → ((x : LendsChildren m' q) → r ≡ sums (bytes x.left)) → (x : LendsChildren m q) → r ≡ sums (bytes x.left)
sum_of sums {q = q} {r = r} e f = subst (λ z. (x : LendsChildren z q) → r ≡ sums (bytes x.left)) e f

pub loop-words-init : goal.loop-words-init
loop-words-init g c =
    let down = down_all _ _ g.met.By.Sum.small g.met.Of.Sum.small _ _ c.args.n c.requires.rope c.requires.reaches in
    record { same = refl; down = down; cost = omega (arith, lends_low down.lends) }

pub shape_of-requires-in-loop-words : goal.shape_of-requires-in-loop-words
shape_of-requires-in-loop-words g c = let inv = c.loop-words.invariant in rw inv.same (down_some inv.down)

pub left_sum-requires : goal.left_sum-requires
left_sum-requires g c =
    let inv = c.loop-words.invariant in
    let sh = c.shape_of.ensures in
    rw (sh.same ∙ inv.same) (node_of inv.same sh.value c.loop-words-test.true (down_some inv.down)).children

pub overflow_add-up_to : goal.overflow_add-up_to
overflow_add-up_to g c =
    let inv = c.loop-words.invariant in
    let sh = c.shape_of.ensures in
    let node = node_of inv.same sh.value c.loop-words-test.true (down_some inv.down) in
    let is = sum_of g.By.Sum.sums (sh.same ∙ inv.same) c.left_sum.ensures.value node.children in
    let fits = by_fits inv.down node g.met.By.Sum.small in
    let few = text_few _ _ c.requires.rope.lends in
    search rules

pub loop-words-smaller-then-is_reached : goal.loop-words-smaller-then-is_reached
loop-words-smaller-then-is_reached g c =
    let row = g.W.Words.row in
    let m = row c.args.words.now in
    let inv = c.loop-words.invariant in
    let sh = c.shape_of.ensures in
    let node = node_of inv.same sh.value c.loop-words-test.true (down_some inv.down) in
    let same : row c.left_sum.new.words ≡ m = c.left_sum.ensures.same ∙ (sh.same ∙ inv.same) in
    let read : LeftRead m c.loop-words.part.0 c.left-part.result.0 = rw same at c.left-part.ensures.lent in
    rw (c.left-part.ensures.same ∙ same, inv.same) (left_shorter inv.down node read)

pub loop-words-preserved-then-is_reached : goal.loop-words-preserved-then-is_reached
loop-words-preserved-then-is_reached g c =
    let row = g.W.Words.row in
    let m = row c.args.words.now in
    let inv = c.loop-words.invariant in
    let sh = c.shape_of.ensures in
    let by = c.left_sum.ensures in
    let node = node_of inv.same sh.value c.loop-words-test.true (down_some inv.down) in
    let same : row c.left_sum.new.words ≡ m = by.same ∙ (sh.same ∙ inv.same) in
    let read : LeftRead m c.loop-words.part.0 c.left-part.result.0 = rw same at c.left-part.ensures.lent in
    let is = sum_of g.By.Sum.sums (sh.same ∙ inv.same) by.value node.children in
    record {
      same = c.left-part.ensures.same ∙ same;
      down = down_left inv.down node read (omega (arith, is, leb-true _ _ (sym c.if-is_reached.ensures)));
      cost = omega (arith, inv.cost, sh.touches, by.touches, c.left-part.ensures.touches, left_lower inv.down node read);
    }

pub left_sum-of-requires : goal.left_sum-of-requires
left_sum-of-requires g c =
    let inv = c.loop-words.invariant in
    let sh = c.shape_of.ensures in
    rw (c.left_sum.ensures.same ∙ (sh.same ∙ inv.same)) (node_of inv.same sh.value c.loop-words-test.true (down_some inv.down)).children

pub overflow_add-of : goal.overflow_add-of
overflow_add-of g c =
    let inv = c.loop-words.invariant in
    let sh = c.shape_of.ensures in
    let node = node_of inv.same sh.value c.loop-words-test.true (down_some inv.down) in
    let is = sum_of g.Of.Sum.sums (c.left_sum.ensures.same ∙ (sh.same ∙ inv.same)) c.left_sum-of.ensures.value node.children in
    let fits = of_fits inv.down node g.met.Of.Sum.small in
    let few = text_few _ _ c.requires.rope.lends in
    search rules

pub loop-words-smaller : goal.loop-words-smaller
loop-words-smaller g c =
    let row = g.W.Words.row in
    let m = row c.args.words.now in
    let inv = c.loop-words.invariant in
    let sh = c.shape_of.ensures in
    let node = node_of inv.same sh.value c.loop-words-test.true (down_some inv.down) in
    let same : row c.left_sum-of.new.words ≡ m = c.left_sum-of.ensures.same ∙ (c.left_sum.ensures.same ∙ (sh.same ∙ inv.same)) in
    let read : RightRead m c.loop-words.part.0 c.right-part.result.0 = rw same at c.right-part.ensures.lent in
    rw (c.right-part.ensures.same ∙ same, inv.same) (right_shorter inv.down node read)

pub loop-words-preserved : goal.loop-words-preserved
loop-words-preserved g c =
    let row = g.W.Words.row in
    let m = row c.args.words.now in
    let inv = c.loop-words.invariant in
    let sh = c.shape_of.ensures in
    let by = c.left_sum.ensures in
    let of = c.left_sum-of.ensures in
    let node = node_of inv.same sh.value c.loop-words-test.true (down_some inv.down) in
    let mid : row c.left_sum.new.words ≡ m = by.same ∙ (sh.same ∙ inv.same) in
    let same : row c.left_sum-of.new.words ≡ m = of.same ∙ mid in
    let read : RightRead m c.loop-words.part.0 c.right-part.result.0 = rw same at c.right-part.ensures.lent in
    let is_by = sum_of g.By.Sum.sums (sh.same ∙ inv.same) by.value node.children in
    let is_of = sum_of g.Of.Sum.sums mid of.value node.children in
    record {
      same = c.right-part.ensures.same ∙ same;
      down = down_right inv.down node read g.met.By.Sum.whole g.met.Of.Sum.whole is_by is_of (leb-false _ _ (sym c.if-is_reached.ensures));
      cost = omega (arith, inv.cost, sh.touches, by.touches, of.touches, c.right-part.ensures.touches, right_lower inv.down node read);
    }

-- at a leaf the way ends
leaf_of : {m m' : List ℕ} {q : ℕ} {s : Shape} → m' ≡ m → ((x : LendsSome m' q) → ShapeIs x.lends.rope s) → s.height ≤ 1 → (x : LendsSome m q) → LendsLeaf m q
leaf_of {q = q} {s = s} e is one x = lends_leaf _ q x.lends (omega (arith, x.some, (subst (λ z. (x : LendsSome z q) → ShapeIs x.lends.rope s) e is x).high))

pub read_leaf-requires : goal.read_leaf-requires
read_leaf-requires g c =
    let inv = c.loop-words.invariant in
    let sh = c.shape_of.ensures in
    rw (sh.same ∙ inv.same) (leaf_of inv.same sh.value c.loop-words-test.false (down_some inv.down))

pub returns-clause-value : goal.returns-clause-value
returns-clause-value g c =
    let inv = c.loop-words.invariant in
    let sh = c.shape_of.ensures in
    let leaf = leaf_of inv.same sh.value c.loop-words-test.false (down_some inv.down) in
    let has : items c.read_leaf.result ≡ leaf.xs = subst (λ z. (x : LendsLeaf z c.loop-words.part.0) → items c.read_leaf.result ≡ x.xs) (sh.same ∙ inv.same) c.read_leaf.ensures.value leaf in
    let whole : bytes inv.down.lends.rope ≡ leaf.xs = sym (text_is _ _ inv.down.lends) ∙ (text_is _ _ leaf.lends ∙ ap bytes leaf.is) in
    located inv.down leaf.xs whole _ has refl refl
