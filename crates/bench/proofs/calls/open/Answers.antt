use Rattle.bench.specs.Runs.{opened}
use Rattle.bench.proofs.calls.open.Goals as goal

pub returns-clause-run : goal.returns-clause-run
returns-clause-run g c = opened c.capacity.ensures.within c.capacity.ensures.few c.forget.ensures.empty
