use Rattle.peg.proofs.edits_keep_and_move.Goals as goal
use Rattle.peg.proofs.Edits.{edits}

pub returns : goal.returns
returns g c = edits _
