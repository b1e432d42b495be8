use Rattle.std.proofs.Common.{arith}
use Rattle.rope.proofs.Makings.{first_some, second_some, heights_low, sums_addable}
use Rattle.rope.proofs.making.data_of.Goals as goal

pub summary_of-a-requires : goal.summary_of-a-requires
summary_of-a-requires g c = first_some c.requires c.requires.fit

pub summary_of-b-requires : goal.summary_of-b-requires
summary_of-b-requires g c = rw c.summary_of-a.ensures.same (second_some c.requires c.requires.fit)

pub node_data-requires : goal.node_data-requires
node_data-requires g c =
    let p = c.summary_of-a.ensures.value (first_some c.requires c.requires.fit) in
    let q = (rw c.summary_of-a.ensures.same at c.summary_of-b.ensures.value) (second_some c.requires c.requires.fit) in
    let low = heights_low c.requires.u c.requires.v c.requires.fit in
    record { heights = omega (arith, p.high, q.high, low.0, low.1); sums = sums_addable c.requires.u c.requires.v _ _ c.requires.fit p q }

pub returns-clause-value : goal.returns-clause-value
returns-clause-value g c = λ x. c.node_data.ensures x.u x.v (c.summary_of-a.ensures.value (first_some x x.fit)) ((rw c.summary_of-a.ensures.same at c.summary_of-b.ensures.value) (second_some x x.fit))
