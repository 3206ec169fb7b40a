use Rattle.reading.proofs.at_most_one_reading.Goals as goal
use Rattle.reading.proofs.Once.{at_most_one}

pub returns : goal.returns
returns c = at_most_one
