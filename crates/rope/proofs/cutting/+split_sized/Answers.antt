use Rattle.std.proofs.Common.{◌<◌, ◌≤◌, ℕ, Some, None, refl, arith}
use Rattle.rope.proofs.Cuttings.{after_cut_by, none_cut_held}
use Rattle.rope.proofs.Splits.{cuts_zero, cuts_all, sized_some, sized_lends, sized_leaf, sized_view, sized_children, sized_opening, sized_middle, Inside, middle_bounds, left_one, left_beside, left_joined, left_none, right_one, right_beside, right_joined, right_none}
use Rattle.rope.specs.declared.sided.Side.TheVariants.{Right}
use Rattle.rope.proofs.Partings.{halved_on}
use Rattle.rope.proofs.cutting.+split_sized.Given.{Over}
use Rattle.rope.proofs.cutting.+split_sized.Goals.{After-part-children}
use Rattle.rope.proofs.cutting.+split_sized.Goals as goal

pub returns-then-at-eq0-clause-cuts : goal.returns-then-at-eq0-clause-cuts
returns-then-at-eq0-clause-cuts g t c = cuts_zero refl c.if-at-eq0.true

pub returns-then-at-size-clause-cuts : goal.returns-then-at-size-clause-cuts
returns-then-at-size-clause-cuts g t c = cuts_all refl c.if-at-size.true

pub shape_of-requires : goal.shape_of-requires
shape_of-requires g t c = sized_lends c.requires c.args.at (omega arith) (omega arith)

pub split_leaf-requires : goal.split_leaf-requires
split_leaf-requires g t c =
    let sh = c.shape_of.ensures in
    rw sh.same (sized_leaf c.requires c.args.at (omega arith) (omega arith) sh.value c.if-shape_of-eq1.true)

pub returns-then-shape_of-eq1-clause-cuts : goal.returns-then-shape_of-eq1-clause-cuts
returns-then-shape_of-eq1-clause-cuts g t c =
    let sh = c.shape_of.ensures in
    let last = rw sh.same at c.split_leaf.ensures.cuts in
    let at = c.args.at in
    let some : 1 ≤ at = omega arith in
    let inside : at < c.args.size = omega arith in
    record { runs = λ x. after_cut_by (last.runs (sized_leaf x at some inside sh.value c.if-shape_of-eq1.true)) refl refl refl (omega arith) (omega (arith, sh.touches, sized_some x at some inside)) }

pub left_sum-middle-requires : goal.left_sum-middle-requires
left_sum-middle-requires g t c =
    let sh = c.shape_of.ensures in
    rw sh.same (sized_children c.requires (sized_view c.requires c.args.at (omega arith) (omega arith) sh.value c.if-shape_of-eq1.false))

pub part-children-requires : goal.part-children-requires
part-children-requires g t c =
    let sh = c.shape_of.ensures in
    rw (c.left_sum-middle.ensures.same, sh.same) (sized_opening c.requires (sized_view c.requires c.args.at (omega arith) (omega arith) sh.value c.if-shape_of-eq1.false))

-- what is known of the children
inside : (g : Over) (t : ℕ) (c : After-part-children g t)
    → Inside c.args.size c.args.at c.left_sum-middle.result (g.W.Words.row c.args.words.now) (g.W.Words.row c.part-children.new.words) c.args.rope.0 c.part-children.result.left.0 c.part-children.result.right.0 (g.W.Words.touched c.args.words.now) (g.W.Words.touched c.part-children.new.words)
inside g t c =
    let sh = c.shape_of.ensures in
    let mid = c.left_sum-middle.ensures in
    let h = c.part-children.ensures in
    let at = c.args.at in
    let some : 1 ≤ at = omega arith in
    let inside : at < c.args.size = omega arith in
    let is_k = rw sh.same at mid.value in
    let cut = rw (mid.same, sh.same) at h.parted in
    let long = rw (mid.same, sh.same) at h.kept.long in
    record {
      some = some;
      inside = inside;
      view = λ x. sized_view x at some inside sh.value c.if-shape_of-eq1.false;
      middle = λ x. sized_middle x (sized_view x at some inside sh.value c.if-shape_of-eq1.false) is_k;
      cut = halved_on Right _ _ cut;
      long = long;
      cost = omega (arith, sh.touches, mid.touches, h.touches);
    }

pub split_sized-cut-requires : goal.split_sized-cut-requires
split_sized-cut-requires g t c κs within =
    let i = inside g t (goal.at.split_sized-cut-requires g t c).After-part-children in
    (omega (arith, (middle_bounds i c.requires).1, c.decreases), (within, left_one i c.requires c.if-at-middle.true))

pub or_release-requires : goal.or_release-requires
or_release-requires g t c = none_cut_held (c.split_sized-cut.ensures.cuts.runs (left_one (inside g t (goal.at.or_release-requires g t c).After-part-children) c.requires c.if-at-middle.true))

pub returns-in_err-cut-clause-cuts : goal.returns-in_err-cut-clause-cuts
returns-in_err-cut-clause-cuts g t c =
    let i = inside g t (goal.at.returns-in_err-cut-clause-cuts g t c).After-part-children in
    let gone = c.in_err-cut.ensures in
    let none = rw (← gone.value) at c.split_sized-cut.ensures.cuts in
    rw c.from_residual.ensures (record { runs = λ x. left_none i x c.if-at-middle.true none gone.released gone.touches })

pub concat_beside-requires : goal.concat_beside-requires
concat_beside-requires g t c =
    let kept = c.in_ok-cut.ensures in
    let one = rw (← kept.value) at c.split_sized-cut.ensures.cuts in
    rw kept.released (left_beside (inside g t (goal.at.concat_beside-requires g t c).After-part-children) c.requires c.if-at-middle.true one)

pub returns-in_err-back-clause-cuts : goal.returns-in_err-back-clause-cuts
returns-in_err-back-clause-cuts g t c =
    let i = inside g t (goal.at.returns-in_err-back-clause-cuts g t c).After-part-children in
    let kept = c.in_ok-cut.ensures in
    let one = rw (← kept.value) at c.split_sized-cut.ensures.cuts in
    let joins = rw (kept.released, kept.touches) at c.in_err-back.ensures.joins in
    rw c.from_residual-in_err-back.ensures (record { runs = λ x. left_joined i x c.if-at-middle.true one None joins c.split_sized-cut.ensures.kept.long })

pub returns-in_ok-back-clause-cuts : goal.returns-in_ok-back-clause-cuts
returns-in_ok-back-clause-cuts g t c =
    let i = inside g t (goal.at.returns-in_ok-back-clause-cuts g t c).After-part-children in
    let kept = c.in_ok-cut.ensures in
    let one = rw (← kept.value) at c.split_sized-cut.ensures.cuts in
    let joins = rw (kept.released, kept.touches) at c.in_ok-back.ensures.joins in
    record { runs = λ x. left_joined i x c.if-at-middle.true one (Some c.in_ok-back.back) joins c.split_sized-cut.ensures.kept.long }

pub split_sized-cut-requires-else-at-middle : goal.split_sized-cut-requires-else-at-middle
split_sized-cut-requires-else-at-middle g t c κs within =
    let i = inside g t (goal.at.split_sized-cut-requires-else-at-middle g t c).After-part-children in
    let b = middle_bounds i c.requires in
    (omega (arith, b.0, b.1, c.decreases), (within, right_one i c.requires c.if-at-middle.false))

pub or_release-requires-else-at-middle : goal.or_release-requires-else-at-middle
or_release-requires-else-at-middle g t c =
    none_cut_held (c.split_sized-cut-else-at-middle.ensures.cuts.runs (right_one (inside g t (goal.at.or_release-requires-else-at-middle g t c).After-part-children) c.requires c.if-at-middle.false))

pub returns-in_err-cut-2-clause-cuts : goal.returns-in_err-cut-2-clause-cuts
returns-in_err-cut-2-clause-cuts g t c =
    let i = inside g t (goal.at.returns-in_err-cut-2-clause-cuts g t c).After-part-children in
    let gone = c.in_err-cut-2.ensures in
    let none = rw (← gone.value) at c.split_sized-cut-else-at-middle.ensures.cuts in
    rw c.from_residual-in_err-cut-2.ensures (record { runs = λ x. right_none i x c.if-at-middle.false none gone.released gone.touches })

pub concat_beside-requires-else-at-middle : goal.concat_beside-requires-else-at-middle
concat_beside-requires-else-at-middle g t c =
    let kept = c.in_ok-cut-2.ensures in
    let one = rw (← kept.value) at c.split_sized-cut-else-at-middle.ensures.cuts in
    rw kept.released (right_beside (inside g t (goal.at.concat_beside-requires-else-at-middle g t c).After-part-children) c.requires c.if-at-middle.false one)

pub returns-in_err-front-clause-cuts : goal.returns-in_err-front-clause-cuts
returns-in_err-front-clause-cuts g t c =
    let i = inside g t (goal.at.returns-in_err-front-clause-cuts g t c).After-part-children in
    let kept = c.in_ok-cut-2.ensures in
    let one = rw (← kept.value) at c.split_sized-cut-else-at-middle.ensures.cuts in
    let joins = rw (kept.released, kept.touches) at c.in_err-front.ensures.joins in
    rw c.from_residual-in_err-front.ensures (record { runs = λ x. right_joined i x c.if-at-middle.false one None joins c.split_sized-cut-else-at-middle.ensures.kept.long })

pub returns-in_ok-front-clause-cuts : goal.returns-in_ok-front-clause-cuts
returns-in_ok-front-clause-cuts g t c =
    let i = inside g t (goal.at.returns-in_ok-front-clause-cuts g t c).After-part-children in
    let kept = c.in_ok-cut-2.ensures in
    let one = rw (← kept.value) at c.split_sized-cut-else-at-middle.ensures.cuts in
    let joins = rw (kept.released, kept.touches) at c.in_ok-front.ensures.joins in
    record { runs = λ x. right_joined i x c.if-at-middle.false one (Some c.in_ok-front.front) joins c.split_sized-cut-else-at-middle.ensures.kept.long }
