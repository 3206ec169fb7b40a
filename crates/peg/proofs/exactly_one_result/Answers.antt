use Rattle.peg.proofs.exactly_one_result.Goals as goal
use Rattle.peg.proofs.Totality.{total}

pub returns : goal.returns
returns g c = total _
