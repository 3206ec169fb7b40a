use Rattle.peg.proofs.at_most_one_result.Goals as goal
use Rattle.peg.proofs.Rules.{at_most_one}

pub returns : goal.returns
returns c = at_most_one
