use Rattle.std.proofs.Common.{◌≡◌, ◌≤◌, arith, rules}
use Rattle.cells.specs.Layout.{put, with_dead}
use Rattle.cells.proofs.Sharings.{held_count, released_none, released_live, released_dead, kept_same, kept_put, kept_dead}
use Rattle.cells.proofs.holding.release.Goals as goal

pub lower-count-requires : goal.lower-count-requires
lower-count-requires g c =
    let one : 1 ≤ c.args.p.0 = grind arith in
    let k = held_count _ c.args.p.0 c.requires one in
    record { within = k.1; live = k.2 }

pub push_dead-requires : goal.push_dead-requires
push_dead-requires g c =
    let one : 1 ≤ c.args.p.0 = grind arith in
    let k = held_count _ c.args.p.0 c.requires one in
    record { within = omega (arith, k.1, c.lower-count.ensures.long) }

pub returns-then-count-eq0 : goal.returns-then-count-eq0
returns-then-count-eq0 g c =
    let m = g.W.Words.row c.args.words.now in
    let p = c.args.p.0 in
    let one : 1 ≤ p = grind arith in
    let lo = (held_count m p c.requires one).0 in
    let is : g.W.Words.row c.push_dead.new.words ≡ with_dead (put m p 0 0) p = cc in
    record {
      released = rw is (released_dead m p lo (omega (arith, c.lower-count.ensures.value)));
      kept = rw is (kept_dead m p lo);
      touches = search rules;
    }

pub returns-else-count-eq0 : goal.returns-else-count-eq0
returns-else-count-eq0 g c =
    let m = g.W.Words.row c.args.words.now in
    let p = c.args.p.0 in
    let x = c.lower-count.result in
    let one : 1 ≤ p = grind arith in
    let lo = (held_count m p c.requires one).0 in
    record {
      released = rw c.lower-count.ensures.same (released_live m p x lo c.lower-count.ensures.value (omega arith));
      kept = rw c.lower-count.ensures.same (kept_put m p 0 x (λ _. lo) (omega arith));
      touches = search rules;
    }

pub returns-else-not-is_none : goal.returns-else-not-is_none
returns-else-not-is_none g c =
    let none : c.args.p.0 ≡ 0 = search rules in
    record { released = released_none _ _ none; kept = kept_same _; touches = search rules }
