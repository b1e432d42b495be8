use Rattle.std.proofs.Common.{◌∷◌, sym, subst}
use Rattle.cells.specs.Tree.{none}
use Rattle.cells.specs.Have.{item, Have}
use Rattle.cells.proofs.Held.{have_none}
use Rattle.chain.proofs.refuses.Goals as goal

pub alloc-requires : goal.alloc-requires
alloc-requires g c =
    let items = c.requires.0 in
    let h = subst (λ m. Have m items) (sym c.checksum-before.ensures) c.requires.1 in
    rw c.numbered.ensures (record { left = none; right = none; rest = items; have = have_none _ (item 0 none ∷ items) (have_none _ items h) })
