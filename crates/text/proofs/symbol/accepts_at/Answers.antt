use Rattle.std.proofs.Common.{rules}
use Rattle.text.proofs.Laws.{accepted_at}
use Rattle.text.proofs.symbol.accepts_at.Goals as goal

pub returns : goal.returns
returns g c = accepted_at g.E.Symbol.matches c.args.elements.now c.args.a c.args.b c.args.place c.get.result c.is_some_and.result c.get.ensures.lookup c.is_some_and.ensures (λ x p. search rules)
