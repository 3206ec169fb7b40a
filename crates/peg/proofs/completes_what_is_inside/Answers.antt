use Rattle.peg.proofs.completes_what_is_inside.Goals as goal
use Rattle.peg.proofs.Completing.{completes}

pub returns : goal.returns
returns c = completes
