use Rattle.std.proofs.Common.{◌≡◌, ◌+◌, ◌*◌, length, get_or, take, sym, refl, ◌∙◌, arith, rules}
use Rattle.cells.specs.Layout.{over, put}
use Rattle.cells.proofs.Lists.{over_none}
use Rattle.cells.proofs.Rows.{data_more}
use Rattle.cells.proofs.content.store.Goals as goal

pub loop-k-init : goal.loop-k-init
loop-k-init g c = record { written = sym (over_none _ _); long = refl; touches = omega arith }

pub loop-k-preserved : goal.loop-k-preserved
loop-k-preserved g c =
    let row = g.W.Words.row in
    let m = row c.args.words.now in
    let w = c.args.data in
    let p = c.args.p.0 in
    let k = c.loop-k.k in
    let long : length w ≡ 13 = search rules in
    let written : row c.store_word.new.words ≡ put (over m (16 * p + 3) (take k w)) p (3 + k) (get_or w k 0) = cc in
    record {
      written = written ∙ data_more m w p k (omega arith) (omega (arith, c.requires.within));
      long = c.store_word.ensures.long ∙ c.loop-k.invariant.long;
      touches = omega (arith, c.store_word.ensures.touches, c.loop-k.invariant.touches);
    }
