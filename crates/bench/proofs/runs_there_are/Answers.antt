use Rattle.std.proofs.Common.{true, false}
use Rattle.bench.proofs.runs_there_are.Goals as goal
use Rattle.bench.proofs.Tour.{toured, toured_by_calls}

pub returns : goal.returns
returns c = record { keeping = toured true; forgetting = toured false; keeping_calls = toured_by_calls true; forgetting_calls = toured_by_calls false }
