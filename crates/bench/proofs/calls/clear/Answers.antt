use Rattle.std.proofs.Common.{refl}
use Rattle.bench.proofs.Going.{goes, knows_cleared}
use Rattle.bench.proofs.calls.clear.Goals as goal

pub returns-clause-known : goal.returns-clause-known
returns-clause-known g c = knows_cleared g.T.Text.fits g.M.Memory.keeps c.forget.ensures.places c.forget.ensures.rules refl _ _ _ _ c.forget.ensures.empty

pub returns-clause-run : goal.returns-clause-run
returns-clause-run g c = goes (returns-clause-known g c)
