use Rattle.reading.proofs.shifts_keep_rows_true.Goals as goal
use Rattle.reading.proofs.Shifting.{shifted}

pub returns : goal.returns
returns g c = shifted _
