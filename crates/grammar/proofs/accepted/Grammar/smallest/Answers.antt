use Rattle.grammar.specs.declared.expr.Mode.TheVariants.{On, Off}
use Rattle.grammar.proofs.Smallest.{accepted, mask}
use Rattle.grammar.proofs.accepted.Grammar.smallest.Goals as goal

pub invariant_of-result : goal.invariant_of-result
invariant_of-result c = record {
  counted = accepted.0;
  headed = accepted.1;
  formed = accepted.2;
  named = accepted.3;
  solid = accepted.4;
  ending = accepted.5;
  mask_on = ∣ mask On ∣₁;
  mask_off = ∣ mask Off ∣₁;
}
