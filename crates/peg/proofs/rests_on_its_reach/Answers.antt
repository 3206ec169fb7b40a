use Rattle.peg.proofs.rests_on_its_reach.Goals as goal
use Rattle.peg.proofs.Moves.{locally}

pub returns : goal.returns
returns c = locally
