use Rattle.std.proofs.Common.{length}
use Rattle.grammar.specs.Words.{meaning}
use Rattle.reading.specs.Reads.{setting}
use Rattle.reading.proofs.Promises.{numbered}
use Rattle.engine.proofs.Settings.{covers_as, uncovered_as, covered_as, promised_of}
use Rattle.engine.proofs.read.read.Goals as goal

pub returns-then-not-covers-clause-replies : goal.returns-then-not-covers-clause-replies
returns-then-not-covers-clause-replies g c = uncovered_as _ _ _ _ _ _ _ c.places.ensures c.capacity.ensures.is c.rules.ensures c.rules-2.ensures (c.covers.ensures.1 c.if-not-covers.true)

pub returns-then-not-covers-clause-promised : goal.returns-then-not-covers-clause-promised
returns-then-not-covers-clause-promised g c =
    promised_of c.args.grammar.now g.T.Text.fits (g.T.Text.elements c.args.text.now) (length c.args.frames.now) g.M.Memory.keeps _ _ _ _ _ _ (returns-then-not-covers-clause-replies g c)

pub returns-then-not-covers-clause-numbered : goal.returns-then-not-covers-clause-numbered
returns-then-not-covers-clause-numbered g c = numbered _ _ _ _ _ (returns-then-not-covers-clause-replies g c) (returns-then-not-covers-clause-promised g c)

pub returns-clause-replies : goal.returns-clause-replies
returns-clause-replies g c =
    covered_as _ _ _ _ _ _ _ c.places.ensures c.capacity.ensures.is c.rules.ensures c.rules-2.ensures (c.covers.ensures.0 c.if-not-covers.false) _ _ _ c.answered.ensures c.root-result.ensures.reads

pub returns-clause-promised : goal.returns-clause-promised
returns-clause-promised g c =
    promised_of c.args.grammar.now g.T.Text.fits (g.T.Text.elements c.args.text.now) (length c.args.frames.now) g.M.Memory.keeps _ _ _ _ _ _ (returns-clause-replies g c)

pub returns-clause-numbered : goal.returns-clause-numbered
returns-clause-numbered g c = numbered _ _ _ _ _ (returns-clause-replies g c) (returns-clause-promised g c)

pub returns-clause-unchanged : goal.returns-clause-unchanged
returns-clause-unchanged g c =
    let G = setting (meaning c.args.grammar.now.words.now) g.T.Text.fits (g.T.Text.elements c.args.text.now) (length c.args.frames.now) g.M.Memory.keeps (g.M.Memory.P c.args.memory.now) (g.M.Memory.Q c.args.memory.now) in
    λ e. absurd ((returns-clause-numbered g c).eight.0 e (covers_as G _ _ _ _ _ c.places.ensures c.capacity.ensures.is c.rules.ensures c.rules-2.ensures (c.covers.ensures.0 c.if-not-covers.false)))
