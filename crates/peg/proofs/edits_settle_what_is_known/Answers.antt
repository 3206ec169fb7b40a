use Rattle.peg.proofs.edits_settle_what_is_known.Goals as goal
use Rattle.peg.proofs.Settling.{settling}

pub returns : goal.returns
returns g c = settling _
