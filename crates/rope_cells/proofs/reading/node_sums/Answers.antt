use Rattle.std.proofs.Common.{◌+◌, ◌<◌, ◌≢◌, length, ◌∙◌, arith, below_more}
use Rattle.std.proofs.lemmas.List.{get_or-set_same, get_or-set_other}
use Rattle.cells.specs.Steps.{WordRead}
use Rattle.ropes.specs.Rope.{bytes}
use Rattle.rope_cells.proofs.Codes.{reading, node_some, sum_read, sums_read}
use Rattle.rope_cells.proofs.reading.node_sums.Goals as goal

pub data_word-requires-clause-node : goal.data_word-requires-clause-node
data_word-requires-clause-node g c = rw c.loop-k.invariant.0 (reading _ _ (node_some _ _ c.requires))

pub loop-k-preserved : goal.loop-k-preserved
loop-k-preserved g c =
    let row = g.W.Words.row in
    let k = c.loop-k.k in
    let inv = c.loop-k.invariant in
    let lt : k < length c.loop-k.sum-items = omega (arith, c.loop-k-test.true, c.loop-k.auto.sum-items) in
    let read : WordRead (row c.args.words.now) c.args.p.0 (1 + k) c.data_word.result = rw inv.0 at c.data_word.ensures.value in (
      c.data_word.ensures.same ∙ inv.0,
      omega (arith, inv.1, c.data_word.ensures.touches),
      λ x. below_more _ _ (λ j h. let ne : j ≢ k = omega arith in rw get_or-set_other (inv.2 x j h)) (rw get_or-set_same (sum_read _ _ k _ (omega arith) read x)),
    )

pub returns-clause-value : goal.returns-clause-value
returns-clause-value g c = λ x. sums_read (bytes x.lends.rope) c.loop-k.sum-items c.loop-k.auto.sum-items (λ j h. c.loop-k.invariant.2 x j (omega (arith, c.loop-k-test.false)))
