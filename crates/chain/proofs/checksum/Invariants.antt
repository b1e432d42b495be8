use Rattle.std.proofs.Common.{◌≡◌}
use Rattle.chain.proofs.checksum.Given as goal

abbrev pub invariant-loop-i : goal.invariant-loop-i
invariant-loop-i g l = g.W.Words.row l.words ≡ g.W.Words.row l.initial.words
