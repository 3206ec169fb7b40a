use Rattle.std.proofs.Common.{sym}
use Rattle.grammar.specs.Words.{meaning}
use Rattle.grammar.proofs.Growing.{grew_one}
use Rattle.grammar.proofs.Referring.{row_whole}
use Rattle.grammar.proofs.form.grow.Goals as goal

pub returns-clause-grew : goal.returns-clause-grew
returns-clause-grew c =
    grew_one (meaning c.args.row.now.words.now) c.args.work.now c.set_mark.new.work c.args.fact c.args.number c.args.mode (row_whole c.args.row.now)
    c.requires.known c.requires.ready c.requires.backed (sym c.if-marked.ensures) (sym c.if-not-is_due.ensures) c.set_mark.ensures
