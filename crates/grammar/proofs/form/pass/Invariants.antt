use Rattle.std.proofs.Common.{◌≡◌, ℕ, ◌<◌, false}
use Rattle.grammar.specs.declared.expr.Mode.{Mode}
use Rattle.grammar.specs.Words.{meaning}
use Rattle.grammar.specs.Marks.{mark, Grew, Tried}
use Rattle.grammar.proofs.form.pass.Given as goal

abbrev pub invariant-loop-number : goal.invariant-loop-number
invariant-loop-number l =
    Grew (meaning l.row.words.now) l.initial.work l.work l.fact l.grown
    × (l.grown ≡ false → (e : ℕ) (m : Mode) → e < l.number → Tried (meaning l.row.words.now) (mark l.work) l.fact e m)
