use Rattle.std.proofs.Common.{refl}
use Rattle.bench.proofs.Going.{goes, knows_shifted}
use Rattle.bench.proofs.calls.settle.Goals as goal

pub returns-clause-known : goal.returns-clause-known
returns-clause-known g c = knows_shifted g.T.Text.fits g.M.Memory.keeps c.shift.ensures.places c.shift.ensures.rules refl _ _ _ _ _ _ _ c.shift.ensures.shifts

pub returns-clause-run : goal.returns-clause-run
returns-clause-run g c = goes (returns-clause-known g c)
