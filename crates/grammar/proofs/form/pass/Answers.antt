use Rattle.grammar.specs.Words.{meaning}
use Rattle.grammar.specs.Marks.{mark}
use Rattle.grammar.proofs.Settling.{ready_still}
use Rattle.grammar.proofs.Growing.{pass_more}
use Rattle.grammar.proofs.form.pass.Goals as goal

pub grow_both-grown-requires-clause-ready : goal.grow_both-grown-requires-clause-ready
grow_both-grown-requires-clause-ready c =
    ready_still (meaning c.args.row.now.words.now) (mark c.args.work.now) (mark c.loop-number.work) c.args.fact c.loop-number.invariant.0.same c.requires.ready

pub loop-number-preserved : goal.loop-number-preserved
loop-number-preserved c =
    pass_more (meaning c.args.row.now.words.now) c.args.work.now c.loop-number.work c.grow_both-grown.new.work c.args.fact c.loop-number.grown
    c.grow_both-grown.result c.loop-number.number c.loop-number.invariant c.grow_both-grown.ensures.grew c.grow_both-grown.ensures.tried
