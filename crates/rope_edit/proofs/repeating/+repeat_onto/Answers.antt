use Rattle.std.proofs.Common.{◌≤◌, arith}
use Rattle.cells.proofs.Sharings.{kept_on}
use Rattle.rope.proofs.Holds.{none_held}
use Rattle.rope_edit.proofs.Repeats.{start_held, none_holding, repeats_none, once_two, repeats_once, many_two, repeats_no_add, add_one, repeats_no_double, half_two, repeats_half}
use Rattle.rope_edit.proofs.repeating.+repeat_onto.Goals as goal

pub release-requires : goal.release-requires
release-requires g t c = none_holding c.if-n-eq0.true {l = c.args.before} c.requires

pub returns-then-n-eq0 : goal.returns-then-n-eq0
returns-then-n-eq0 g t c =
    let gone = c.release.ensures in
    record { repeats = repeats_none c.if-n-eq0.true gone.released gone.touches; kept = gone.kept }

pub concat-requires : goal.concat-requires
concat-requires g t c = once_two c.if-n-eq1.true c.requires

pub returns-then-n-eq1 : goal.returns-then-n-eq1
returns-then-n-eq1 g t c =
    let o = c.concat.ensures in
    record { repeats = repeats_once c.if-n-eq1.true o.joins; kept = o.kept }

pub add_odd-start-requires : goal.add_odd-start-requires
add_odd-start-requires g t c =
    let many : 2 ≤ c.args.n = omega arith in
    many_two many c.requires

pub or_release-requires : goal.or_release-requires
or_release-requires g t c =
    let many : 2 ≤ c.args.n = omega arith in
    none_held (c.add_odd-start.ensures.adds.runs (many_two many c.requires))

pub returns-in_err-start : goal.returns-in_err-start
returns-in_err-start g t c =
    let many : 2 ≤ c.args.n = omega arith in
    let a = c.add_odd-start.ensures in
    let gone = c.in_err-start.ensures in
    let none = rw (← gone.value) at a.adds in
    record { repeats = rw c.from_residual.ensures (repeats_no_add many a.kept.long none gone.released gone.touches); kept = kept_on _ _ _ a.kept gone.kept }

pub double-twice-requires : goal.double-twice-requires
double-twice-requires g t c =
    let many : 2 ≤ c.args.n = omega arith in
    let a = c.add_odd-start.ensures in
    let first = c.in_ok-start.ensures in
    let adds = rw (← first.value) at a.adds in
    rw first.released (add_one many a.kept.long adds c.requires)

pub or_release-requires-2 : goal.or_release-requires-2
or_release-requires-2 g t c =
    let many : 2 ≤ c.args.n = omega arith in
    let a = c.add_odd-start.ensures in
    let first = c.in_ok-start.ensures in
    let adds = rw (← first.value) at a.adds in
    let b = c.double-twice.ensures in
    let twice = rw (first.released, first.touches) at b.doubles in
    let long = rw first.released at b.kept.long in
    start_held many a.kept.long adds twice c.requires

pub returns-in_err-twice : goal.returns-in_err-twice
returns-in_err-twice g t c =
    let many : 2 ≤ c.args.n = omega arith in
    let a = c.add_odd-start.ensures in
    let first = c.in_ok-start.ensures in
    let adds = rw (← first.value) at a.adds in
    let b = c.double-twice.ensures in
    let twice = rw (first.released, first.touches) at b.doubles in
    let long = rw first.released at b.kept.long in
    let gone = c.in_err-twice.ensures in
    let none = rw (← gone.value) at twice in
    record {
      repeats = rw c.from_residual-in_err-twice.ensures (repeats_no_double many a.kept.long adds long none gone.released gone.touches);
      kept = kept_on _ _ _ a.kept (kept_on _ _ _ first.kept (kept_on _ _ _ b.kept gone.kept));
    }

pub repeat_onto-requires : goal.repeat_onto-requires
repeat_onto-requires g t c κs within =
    let many : 2 ≤ c.args.n = omega arith in
    let a = c.add_odd-start.ensures in
    let first = c.in_ok-start.ensures in
    let adds = rw (← first.value) at a.adds in
    let b = c.double-twice.ensures in
    let twice = rw (first.released, first.touches) at b.doubles in
    let long = rw first.released at b.kept.long in
    let second = c.in_ok-twice.ensures in
    let doubles = rw (← second.value) at twice in
    (omega (arith, c.decreases), (within, rw (c.half.ensures, second.released) (half_two many a.kept.long adds long doubles c.requires)))

pub returns : goal.returns
returns g t c =
    let many : 2 ≤ c.args.n = omega arith in
    let a = c.add_odd-start.ensures in
    let first = c.in_ok-start.ensures in
    let adds = rw (← first.value) at a.adds in
    let b = c.double-twice.ensures in
    let twice = rw (first.released, first.touches) at b.doubles in
    let long = rw first.released at b.kept.long in
    let second = c.in_ok-twice.ensures in
    let doubles = rw (← second.value) at twice in
    let o = c.repeat_onto.ensures in
    let last = rw (c.half.ensures, second.released, second.touches) at o.repeats in
    record {
      repeats = repeats_half many a.kept.long adds long doubles last;
      kept = kept_on _ _ _ a.kept (kept_on _ _ _ first.kept (kept_on _ _ _ b.kept (kept_on _ _ _ second.kept o.kept)));
    }
