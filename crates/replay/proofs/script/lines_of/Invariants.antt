use Rattle.std.proofs.Common.{length}
use Rattle.replay.proofs.script.lines_of.Given as goal

abbrev pub decreases-loop-line : goal.decreases-loop-line
decreases-loop-line l = length l.rest
