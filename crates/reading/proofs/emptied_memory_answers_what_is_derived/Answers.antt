use Rattle.reading.proofs.emptied_memory_answers_what_is_derived.Goals as goal
use Rattle.reading.proofs.Truth.{emptied}

pub returns : goal.returns
returns g c = emptied _
