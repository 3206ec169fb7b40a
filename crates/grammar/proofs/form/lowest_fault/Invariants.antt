use Rattle.std.proofs.Common.{ℕ, ◌<◌}
use Rattle.grammar.specs.Words.{meaning}
use Rattle.grammar.specs.Marks.{FaultAt}
use Rattle.grammar.proofs.form.lowest_fault.Given as goal

abbrev pub invariant-loop-number : goal.invariant-loop-number
invariant-loop-number l = (k : ℕ) → k < l.number → FaultAt (meaning l.row.words.now) l.fact k → ⊥
