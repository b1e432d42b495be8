use Rattle.std.proofs.Common.{length, vec_items, sym, ap, ◌∙◌, arith}
use Rattle.words.specs.Padded.{padded}
use Rattle.words.proofs.Padding.{padded_more, padded_enough, padded_length}
use Rattle.words.proofs.heap_words.HeapWords.grow.Goals as goal

pub returns-in_ok-reserve_exact-clause-cases : goal.returns-in_ok-reserve_exact-clause-cases
returns-in_ok-reserve_exact-clause-cases c =
    let s = c.self.inside in
    let n = c.args.size in
    ap (λ xs. padded xs n) c.reserve_exact.ensures.items
    ∙ sym (padded_more (vec_items s.items) s.size n (omega arith))
    ∙ ap (λ v. padded v.row n) c.self.view_is

pub returns-else-size-self-clause-cases : goal.returns-else-size-self-clause-cases
returns-else-size-self-clause-cases c =
    let s = c.self.inside in
    let long = ap (λ v. length v.row) c.self.view_is in
    sym (padded_enough c.args.self.now.row c.args.size (omega (arith, long, padded_length (vec_items s.items) s.size c.self.invariant.0)))
