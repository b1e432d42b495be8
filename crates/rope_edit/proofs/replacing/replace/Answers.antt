use Rattle.cells.proofs.Sharings.{kept_on}
use Rattle.rope.proofs.Cuttings.{none_cut_held}
use Rattle.rope_edit.proofs.Follows.{pending_following}
use Rattle.rope_edit.proofs.Replaces.{replaces_one, replaces_none, front_cut, start_pending, end_pending, replaces_some, replaces_quick}
use Rattle.rope_edit.proofs.replacing.replace.Goals as goal

pub split-cut-requires : goal.split-cut-requires
split-cut-requires g c = replaces_one c.args.a c.args.b c.requires

pub or_release-requires : goal.or_release-requires
or_release-requires g c = none_cut_held (c.split-cut.ensures.cuts.runs (replaces_one c.args.a c.args.b c.requires))

pub returns-in_err-cut : goal.returns-in_err-cut
returns-in_err-cut g c =
    let s = c.split-cut.ensures in
    let gone = c.in_err-cut.ensures in
    let none = rw (← gone.value) at s.cuts in
    let all = replaces_none c.args.a c.args.b s.kept.long none gone.released gone.touches in
    record { replaces = rw c.from_residual.ensures all; kept = kept_on _ _ _ s.kept gone.kept; quick = replaces_quick _ c.requires all }

pub keep_front-front-requires : goal.keep_front-front-requires
keep_front-front-requires g c =
    let s = c.split-cut.ensures in
    let held = c.in_ok-cut.ensures in
    let cuts = rw (← held.value) at s.cuts in
    rw held.released (front_cut c.args.a c.args.b s.kept.long cuts c.requires)

pub concat_onto-start-requires : goal.concat_onto-start-requires
concat_onto-start-requires g c =
    let s = c.split-cut.ensures in
    let held = c.in_ok-cut.ensures in
    let cuts = rw (← held.value) at s.cuts in
    let k = c.keep_front-front.ensures in
    let keeps = rw (held.released, held.touches) at k.keeps in
    let long = rw held.released at k.kept.long in
    pending_following _ (start_pending c.args.a c.args.b s.kept.long cuts keeps long c.requires)

pub concat_onto-requires : goal.concat_onto-requires
concat_onto-requires g c =
    let s = c.split-cut.ensures in
    let held = c.in_ok-cut.ensures in
    let cuts = rw (← held.value) at s.cuts in
    let k = c.keep_front-front.ensures in
    let keeps = rw (held.released, held.touches) at k.keeps in
    let long = rw held.released at k.kept.long in
    let f = c.concat_onto-start.ensures in
    pending_following _ (end_pending c.args.a c.args.b s.kept.long cuts keeps long _ _ _ f.follows f.kept.long c.requires)

pub returns : goal.returns
returns g c =
    let s = c.split-cut.ensures in
    let held = c.in_ok-cut.ensures in
    let cuts = rw (← held.value) at s.cuts in
    let k = c.keep_front-front.ensures in
    let keeps = rw (held.released, held.touches) at k.keeps in
    let long = rw held.released at k.kept.long in
    let f = c.concat_onto-start.ensures in
    let o = c.concat_onto.ensures in
    let all = replaces_some c.args.a c.args.b s.kept.long cuts keeps long _ _ _ f.follows f.kept.long _ _ _ o.follows o.kept.long in
    record { replaces = all; kept = kept_on _ _ _ s.kept (kept_on _ _ _ held.kept (kept_on _ _ _ k.kept (kept_on _ _ _ f.kept o.kept))); quick = replaces_quick _ c.requires all }
