use Rattle.std.proofs.Common.{◌≡◌, sym}
use Rattle.ropes.specs.Rope.{bytes}
use Rattle.ropes.specs.Layout.{sums_of}
use Rattle.rope_cells.specs.Lending.{LendsNode}
use Rattle.rope_cells.proofs.Codes.{leaf_few}
use Rattle.rope_cells.proofs.reading.summary_of.Goals as goal

pub node_sums-requires : goal.node_sums-requires
node_sums-requires g c = rw c.told.ensures.same (record { lends = c.requires.lends; high = (c.in-Node.ensures.value c.requires).0 })

pub returns-in-Node-clause-value : goal.returns-in-Node-clause-value
returns-in-Node-clause-value g c =
    let sums : (x : LendsNode (g.W.Words.row c.args.words.now) c.args.p.0) → c.node_sums.result ≡ sums_of (bytes x.lends.rope) = rw c.in-Node.ensures.same at c.node_sums.ensures.value in
    λ x.
    let tag = c.in-Node.ensures.value x in
    record { high = tag.1; sums = sums (record { lends = x.lends; high = tag.0 }) }

pub returns-in-Leaf-clause-value : goal.returns-in-Leaf-clause-value
returns-in-Leaf-clause-value g c = λ x.
    let tag = c.in-Leaf.ensures.value x in
    record { high = sym tag.0; sums = c.leaf_sums-sums.ensures (bytes x.lends.rope) (leaf_few x.lends.rope x.lends.whole tag.0) tag.1 }
