use Rattle.std.proofs.Common.{◌∙◌}
use Rattle.grammar.specs.declared.marks.Fact.TheVariants.{MayMatchNothing, WalksEnd}
use Rattle.grammar.proofs.Marking.{blank_marks}
use Rattle.grammar.proofs.form.check_form.Goals as goal

pub settle-requires-clause-blank : goal.settle-requires-clause-blank
settle-requires-clause-blank c = blank_marks c.args.work.now c.requires.blank MayMatchNothing

pub settle-requires-2-clause-blank : goal.settle-requires-2-clause-blank
settle-requires-2-clause-blank c = λ e m. c.settle.ensures.same e m ∙ blank_marks c.args.work.now c.requires.blank WalksEnd e m
