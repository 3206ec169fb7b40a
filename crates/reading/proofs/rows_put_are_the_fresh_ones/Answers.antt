use Rattle.reading.proofs.rows_put_are_the_fresh_ones.Goals as goal
use Rattle.reading.proofs.Counts.{counts}

pub returns : goal.returns
returns c = counts
