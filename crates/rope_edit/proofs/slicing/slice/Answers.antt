use Rattle.ropes.specs.Cut.{back}
use Rattle.rope_edit.proofs.Slices.{lend_sharing, lend_one, front_one, front_holding, keeps_back, keeps_none, slices_none, slices_some, slices_quick}
use Rattle.rope_edit.proofs.slicing.slice.Goals as goal

pub another-own-requires : goal.another-own-requires
another-own-requires g c = lend_sharing c.args.a c.args.b c.requires

pub keep_front-requires : goal.keep_front-requires
keep_front-requires g c =
    let s = c.another-own.ensures in
    rw s.value (lend_one c.args.a c.args.b s.shared s.kept.long _ s.touches c.requires)

pub returns-in_err-front-clause-slices : goal.returns-in_err-front-clause-slices
returns-in_err-front-clause-slices g c =
    let s = c.another-own.ensures in
    let o = c.in_err-front.ensures in
    rw c.from_residual.ensures (slices_none c.args.a c.args.b s.shared s.kept.long _ s.touches o.kept.long (rw s.value at o.keeps))

pub returns-in_err-front-clause-quick : goal.returns-in_err-front-clause-quick
returns-in_err-front-clause-quick g c =
    let s = c.another-own.ensures in
    let o = c.in_err-front.ensures in
    slices_quick _ c.requires (slices_none c.args.a c.args.b s.shared s.kept.long _ s.touches o.kept.long (rw s.value at o.keeps))

pub split-requires : goal.split-requires
split-requires g c =
    let s = c.another-own.ensures in
    let o = c.in_ok-front.ensures in
    front_one c.args.a c.args.b s.shared s.kept.long _ s.touches o.kept.long (rw s.value at o.keeps) c.requires

pub returns-in_err-cut-clause-slices : goal.returns-in_err-cut-clause-slices
returns-in_err-cut-clause-slices g c =
    let s = c.another-own.ensures in
    let o = c.in_ok-front.ensures in
    rw c.from_residual-in_err-cut.ensures (slices_some c.args.a c.args.b s.shared s.kept.long _ s.touches o.kept.long (rw s.value at o.keeps) (keeps_none back c.in_err-cut.ensures.cuts))

pub returns-in_err-cut-clause-quick : goal.returns-in_err-cut-clause-quick
returns-in_err-cut-clause-quick g c =
    let s = c.another-own.ensures in
    let o = c.in_ok-front.ensures in
    slices_quick _ c.requires (slices_some c.args.a c.args.b s.shared s.kept.long _ s.touches o.kept.long (rw s.value at o.keeps) (keeps_none back c.in_err-cut.ensures.cuts))

pub back_of-requires : goal.back_of-requires
back_of-requires g c =
    let s = c.another-own.ensures in
    let o = c.in_ok-front.ensures in
    front_holding c.in_ok-cut.ensures.cuts (front_one c.args.a c.args.b s.shared s.kept.long _ s.touches o.kept.long (rw s.value at o.keeps) c.requires)

pub returns-clause-slices : goal.returns-clause-slices
returns-clause-slices g c =
    let s = c.another-own.ensures in
    let o = c.in_ok-front.ensures in
    rw c.back_of.ensures.value (slices_some c.args.a c.args.b s.shared s.kept.long _ s.touches o.kept.long (rw s.value at o.keeps) (keeps_back c.in_ok-cut.ensures.cuts c.back_of.ensures.touches c.back_of.ensures.released))

pub returns-clause-quick : goal.returns-clause-quick
returns-clause-quick g c =
    let s = c.another-own.ensures in
    let o = c.in_ok-front.ensures in
    slices_quick _ c.requires (slices_some c.args.a c.args.b s.shared s.kept.long _ s.touches o.kept.long (rw s.value at o.keeps) (keeps_back c.in_ok-cut.ensures.cuts c.back_of.ensures.touches c.back_of.ensures.released))
