use Rattle.grammar.specs.Words.{meaning}
use Rattle.grammar.specs.Marks.{mark}
use Rattle.grammar.proofs.Settling.{ready_still}
use Rattle.grammar.proofs.form.grow_both.Goals as goal

pub grow-off-requires-clause-ready : goal.grow-off-requires-clause-ready
grow-off-requires-clause-ready c =
    ready_still (meaning c.args.row.now.words.now) (mark c.args.work.now) (mark c.grow-on.new.work) c.args.fact c.grow-on.ensures.grew.same c.requires.ready
