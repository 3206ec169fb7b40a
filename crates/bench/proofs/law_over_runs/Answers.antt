use Rattle.bench.proofs.law_over_runs.Goals as goal
use Rattle.bench.proofs.Law.{law}

pub returns : goal.returns
returns g c = law _
