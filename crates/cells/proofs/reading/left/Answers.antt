use Rattle.std.proofs.Common.{sym, subst}
use Rattle.cells.specs.Have.{Lent}
use Rattle.cells.proofs.Held.{lend_left}
use Rattle.cells.proofs.reading.left.Goals as goal

pub returns : goal.returns
returns g c =
    let m = g.W.Words.row c.args.words.now in
    let p = c.args.p.0 in
    record {
      lent = record { lent = λ u v w rest h lent. subst (λ z. Lent m z u) (sym c.left_of.ensures.value) (lend_left m p u v w rest h lent) };
      same = c.left_of.ensures.same;
      touches = c.left_of.ensures.touches;
    }
