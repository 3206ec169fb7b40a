use Rattle.reading.proofs.accepted_rows_are_proper.Goals as goal
use Rattle.reading.proofs.Truth.{proper}

pub returns : goal.returns
returns g c = proper _
