use Rattle.std.proofs.Common.{◌≡◌, ℕ, ◌+◌, ◌*◌, ◌∙◌, ap, arith, rules, tests}
use Rattle.std.specs.Iterator.Adapters.{zip_first, zip_second}
use Rattle.std.specs.Slice.Iter.{chunks_rest}
use Rattle.pictures.proofs.Bounds.{and_differing, counted_by_run, begun}
use Rattle.pictures.proofs.pair.Pair.differing_rows.Goals as goal

pub returns-clause-counted : goal.returns-clause-counted
returns-clause-counted c =
    let pair = c.args.self.now in
    let p = c.count.ensures.runs in
    let q = c.filter.ensures.runs p.0 p.0.seen p.1 in
    let count = p.3 ∙ q.2.5 and_differing (λ x b f n k. search (rules, tests)) in
    let old : chunks_rest (zip_first q.0.from) ≡ pair.before.cells.now = search rules in
    let new : chunks_rest (zip_second q.0.from) ≡ pair.after.cells.now = search rules in
    ap (λ (n : ℕ). n * (16 + pair.size.columns)) count ∙ counted_by_run pair.size.columns pair.size.rows _ q.0 (omega (arith, pair.before_valid.column_within)) (q.2.0 ∙ p.2) (search rules) (search rules) (begun pair.size.columns pair.size.rows _ _ _ _ old new pair.before_valid.filled pair.after_valid.filled)
