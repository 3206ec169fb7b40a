use Rattle.std.proofs.Common.{refl, ◌∙◌}
use Rattle.grammar.specs.Words.{meaning}
use Rattle.grammar.specs.Marks.{mark, Same, other}
use Rattle.grammar.proofs.Settling.{ready_still, decided}
use Rattle.grammar.proofs.Referring.{row_whole}
use Rattle.grammar.proofs.form.settle.Goals as goal

pub pass-requires-clause-ready : goal.pass-requires-clause-ready
pass-requires-clause-ready c =
    ready_still (meaning c.args.row.now.words.now) (mark c.args.work.now) (mark c.passes.work) c.args.fact c.passes.invariant.1 c.requires.ready

pub returns-clause-decided : goal.returns-clause-decided
returns-clause-decided c =
    let g = meaning c.args.row.now.words.now in
    let last = c.passes-test.ensures.grew in
    let same : Same (mark c.args.work.now) (mark c.pass.new.work) (other c.args.fact) = λ e m. last.same e m ∙ c.passes.invariant.1 e m in
    decided g (row_whole c.args.row.now) (mark c.pass.new.work) c.args.fact
    (ready_still g (mark c.args.work.now) (mark c.pass.new.work) c.args.fact same c.requires.ready)
    last.backed (c.passes-test.ensures.tried refl)
