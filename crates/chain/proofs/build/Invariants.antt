use Rattle.std.proofs.Common.{◌≡◌, [], ◌∷◌, length}
use Rattle.cells.specs.Have.{item, Have}
use Rattle.chain.specs.Chains.{chained}
use Rattle.chain.proofs.build.Given as goal

abbrev pub invariant-loop-k : goal.invariant-loop-k
invariant-loop-k g l =
    Have (g.W.Words.row l.words) (item l.first.0 (chained l.k) ∷ [])
    × (length (g.W.Words.row l.words) ≡ length (g.W.Words.row l.initial.words))
