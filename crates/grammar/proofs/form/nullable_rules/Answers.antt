use Rattle.std.proofs.Common.{ℕ, ◌+◌, ◌<◌, Bool, sym, ap, ◌∙◌, subst, arith}
use lib.Bits.{bit_or}
use Rattle.std.proofs.lemmas.Nat.{one_shl}
use Rattle.grammar.specs.declared.marks.Fact.TheVariants.{MayMatchNothing}
use Rattle.grammar.specs.Words.{meaning}
use Rattle.grammar.specs.Marks.{mark}
use Rattle.grammar.proofs.Finding.{BitsBelow, bit_on, bit_off}
use Rattle.grammar.proofs.form.nullable_rules.Goals as goal
use Rattle.grammar.proofs.form.nullable_rules.Goals.{then-marked, else-marked}

pub loop-rule-preserved : goal.loop-rule-preserved
loop-rule-preserved c =
    let g = meaning c.args.row.now.words.now in
    let test : ℕ → Bool = λ r. mark c.args.work.now MayMatchNothing (g.body r) c.args.mode in
    let body = ap (λ (b : ℕ). mark c.args.work.now MayMatchNothing b c.args.mode) c.body_of.ensures in
    let low : c.loop-rule.rule < 64 = omega (arith, c.rules_of-rule-end.ensures.value, c.args.row.now.headed.2.0.1) in
    elim c.if-marked.branch [
      | then-marked w ↦
          subst (λ (x : ℕ). BitsBelow test x (c.loop-rule.rule + 1)) (sym (w.mask-is ∙ ap (bit_or c.loop-rule.mask) (one_shl c.loop-rule.rule 64 low)))
          (bit_on test c.loop-rule.mask c.loop-rule.rule c.loop-rule.invariant (sym (w.if-marked.ensures ∙ body)))
      | else-marked w ↦
          subst (λ (x : ℕ). BitsBelow test x (c.loop-rule.rule + 1)) (sym w.mask-is)
          (bit_off test c.loop-rule.mask c.loop-rule.rule c.loop-rule.invariant (sym (w.if-marked.ensures ∙ body)))
    ]
