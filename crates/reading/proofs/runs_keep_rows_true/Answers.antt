use Rattle.reading.proofs.runs_keep_rows_true.Goals as goal
use Rattle.reading.proofs.Steps.{steps}

pub returns : goal.returns
returns g c = steps _
