use Rattle.std.proofs.Common.{◌≢◌, length, sym, refl, ◌∙◌, arith}
use Rattle.std.proofs.lemmas.Bool.{eqb-true, eqb-false}
use Rattle.rope_read.proofs.Descents.{lends_low}
use Rattle.rope_read.proofs.Spans.{range_none, short_leaf, sized_all, price_all}
use Rattle.rope_read.proofs.ranges.read.Goals as goal

pub returns-then-is_empty : goal.returns-then-is_empty
returns-then-is_empty g c =
    record { value = range_none c.args.into.now _ (eqb-true _ _ (sym c.if-is_empty.ensures)); same = refl; touches = omega arith }

pub read_in_leaf-requires : goal.read_in_leaf-requires
read_in_leaf-requires g c =
    let size = c.len-size.ensures in
    let some : length c.args.into.now ≢ 0 = eqb-false _ _ (sym c.if-is_empty.ensures) in
    record {
      rope = rw size.same (short_leaf _ _ c.requires.rope (omega (arith, size.value, c.if-size.true)) (omega (arith, c.requires.inside, some)));
      inside = rw size.same c.requires.inside;
    }

pub read_part-requires : goal.read_part-requires
read_part-requires g c =
    let size = c.len-size.ensures in
    record {
      rope = rw size.same (sized_all c.requires.rope size.value (omega (arith, c.if-size.false)));
      inside = omega (arith, size.value, c.requires.inside);
    }

pub returns-else-size : goal.returns-else-size
returns-else-size g c =
    let size = c.len-size.ensures in
    let down = c.read_part.ensures in
    let x = sized_all c.requires.rope size.value (omega (arith, c.if-size.false)) in
    record {
      value = rw size.same at down.value;
      same = down.same ∙ size.same;
      touches = omega (arith, size.touches, (rw size.same at down.touches) x, price_all _ c.len-size.result c.args.from (length c.args.into.now) (lends_low x.lends));
    }
