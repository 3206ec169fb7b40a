use Rattle.std.proofs.Common.{refl}
use Rattle.engine.proofs.Settings.{accepted_of}
use Rattle.bench.proofs.Going.{goes, knows_parsed, obeys}
use Rattle.bench.proofs.calls.parse.Goals as goal

pub returns-clause-law : goal.returns-clause-law
returns-clause-law g c = obeys g.T.Text.fits g.M.Memory.keeps _ _ _ _ (accepted_of c.args.grammar.now) _ _ _ _ _ c.read.ensures.replies

pub returns-clause-known : goal.returns-clause-known
returns-clause-known g c = knows_parsed g.T.Text.fits g.M.Memory.keeps c.read.ensures.places c.read.ensures.rules refl _ (accepted_of c.args.grammar.now) _ _ _ _ _ c.read.ensures.replies

pub returns-clause-run : goal.returns-clause-run
returns-clause-run g c = goes (returns-clause-known g c)
