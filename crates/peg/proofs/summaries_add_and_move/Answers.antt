use Rattle.peg.proofs.summaries_add_and_move.Goals as goal
use Rattle.peg.proofs.Summaries.{summaries}

pub returns : goal.returns
returns c = summaries
