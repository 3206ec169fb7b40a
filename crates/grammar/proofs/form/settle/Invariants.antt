use Rattle.grammar.specs.Words.{meaning}
use Rattle.grammar.specs.Marks.{mark, Backed, Same, other, missing}
use Rattle.grammar.proofs.form.settle.Given as goal

abbrev pub invariant-passes : goal.invariant-passes
invariant-passes l = Backed (meaning l.row.words.now) (mark l.work) l.fact × Same (mark l.initial.work) (mark l.work) (other l.fact)

abbrev pub decreases-passes : goal.decreases-passes
decreases-passes l = missing (mark l.work) l.fact (meaning l.row.words.now).N
