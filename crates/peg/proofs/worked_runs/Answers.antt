use Rattle.peg.proofs.worked_runs.Goals as goal
use Rattle.peg.proofs.Worked.{worked}

pub returns : goal.returns
returns c = worked
