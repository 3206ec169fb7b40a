use Rattle.grammar.specs.declared.marks.Fact.TheVariants.{MayMatchNothing}
use Rattle.grammar.specs.Words.{meaning}
use Rattle.grammar.specs.Marks.{mark}
use Rattle.grammar.proofs.Finding.{BitsBelow}
use Rattle.grammar.proofs.form.nullable_rules.Given as goal

abbrev pub invariant-loop-rule : goal.invariant-loop-rule
invariant-loop-rule l = BitsBelow (λ r. mark l.work MayMatchNothing ((meaning l.row.words.now).body r) l.mode) l.mask l.rule
