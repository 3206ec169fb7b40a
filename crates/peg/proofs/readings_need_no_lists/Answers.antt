use Rattle.peg.proofs.readings_need_no_lists.Goals as goal
use Rattle.peg.proofs.Readings.{readings}

pub returns : goal.returns
returns c = readings
