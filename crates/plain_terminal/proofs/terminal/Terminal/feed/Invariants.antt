use Rattle.std.proofs.Common.{length}
use Rattle.plain_terminal.proofs.terminal.Terminal.feed.Given as goal

abbrev pub decreases-loop-action : goal.decreases-loop-action
decreases-loop-action l = length l.rest
