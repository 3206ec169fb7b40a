use Rattle.std.proofs.Common.{refl}
use Rattle.engine.proofs.Settings.{accepted_of}
use Rattle.bench.proofs.Going.{some_run, knows_changed, changeable}
use Rattle.bench.proofs.calls.change.Goals as goal

pub returns-in-Ok-clause-answers : goal.returns-in-Ok-clause-answers
returns-in-Ok-clause-answers g c = record { eleven = c.in-Ok.ensures.range; twelve = c.in-Ok.ensures.room }

pub returns-in-Ok-clause-known : goal.returns-in-Ok-clause-known
returns-in-Ok-clause-known g c =
    let e = c.in-Ok.ensures in
    knows_changed g.T.Text.fits g.M.Memory.keeps refl refl e.capacity _ (accepted_of c.args.grammar.now) (g.T.Text.elements c.args.text.now) c.args.items.now _ _ c.args.p c.args.k (changeable _ _ _ _ _ e.range e.room) e.text

pub returns-in-Ok-clause-run : goal.returns-in-Ok-clause-run
returns-in-Ok-clause-run g c = λ first cs r. some_run (returns-in-Ok-clause-known g c first cs r.0 r.1)
