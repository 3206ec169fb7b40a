use Rattle.std.proofs.Common.{sym, subst}
use Rattle.grammar.specs.declared.expr.Mode.{Mode}
use Rattle.grammar.specs.Words.{meaning}
use Rattle.grammar.specs.Marks.{Mask}
use Rattle.grammar.proofs.accepted.Grammar.mask.Goals as goal

pub returns-in-On : goal.returns-in-On
returns-in-On c = subst (λ (m : Mode). ∥ Mask (meaning c.args.self.now.words.now) m c.args.self.now.on ∥₁) (sym c.in-On.is) c.args.self.now.mask_on

pub returns-in-Off : goal.returns-in-Off
returns-in-Off c = subst (λ (m : Mode). ∥ Mask (meaning c.args.self.now.words.now) m c.args.self.now.off ∥₁) (sym c.in-Off.is) c.args.self.now.mask_off
