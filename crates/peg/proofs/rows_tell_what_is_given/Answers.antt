use Rattle.peg.proofs.rows_tell_what_is_given.Goals as goal
use Rattle.peg.proofs.Rows.{rows}

pub returns : goal.returns
returns c = rows
