use Rattle.reading.proofs.true_rows_answer_for_the_rules.Goals as goal
use Rattle.reading.proofs.Truth.{true_reading}

pub returns : goal.returns
returns c = true_reading
