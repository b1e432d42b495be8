use Rattle.std.proofs.Common.{◌≡◌, ◌≤◌, arith, rules}
use Rattle.cells.proofs.Sharings.{count_fits, shared_none, shared_some, kept_same, kept_put}
use Rattle.cells.proofs.holding.share.Goals as goal

pub raise-requires : goal.raise-requires
raise-requires g c =
    let one : 1 ≤ c.args.p.0 = grind arith in
    let k = count_fits _ c.args.p.0 c.requires one in
    record { within = k.1; fits = k.2 }

pub returns-then-not-is_none : goal.returns-then-not-is_none
returns-then-not-is_none g c =
    let m = g.W.Words.row c.args.words.now in
    let p = c.args.p.0 in
    let one : 1 ≤ p = grind arith in
    let k = count_fits m p c.requires one in
    record {
      shared = rw c.raise.ensures.same (shared_some m p k.0 k.1);
      kept = rw c.raise.ensures.same (kept_put m p 0 _ (λ _. k.0) (omega arith));
      touches = search rules;
    }

pub returns-else-not-is_none : goal.returns-else-not-is_none
returns-else-not-is_none g c =
    let none : c.args.p.0 ≡ 0 = search rules in
    record { shared = shared_none _ _ none; kept = kept_same _; touches = search rules }
