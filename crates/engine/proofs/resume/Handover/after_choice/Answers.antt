use Rattle.std.proofs.Common.{sym, ap, ◌∙◌}
use Rattle.peg.specs.Rules.{caught}
use Rattle.grammar.specs.Words.{Peg}
use Rattle.engine.proofs.Resuming.{one_stays, one_turns, other_gives}
use Rattle.engine.proofs.resume.Handover.after_choice.Goals as goal

pub returns-then-frame-ne0 : goal.returns-then-frame-ne0
returns-then-frame-ne0 c = rw (c.other.ensures, c.so_far.ensures) (λ G T h a p sane w e. other_gives sane T w e c.if-frame-ne0.true)

pub returns-then-is_caught : goal.returns-then-is_caught
returns-then-is_caught c =
    rw c.goes_on.ensures (λ G T h a p sane w e. one_turns sane T w e c.if-frame-ne0.false (ap (λ (x : Peg). caught x c.args.set c.args.self.part.reading.outcome) p ∙ sym c.if-is_caught.ensures))

pub returns-else-is_caught : goal.returns-else-is_caught
returns-else-is_caught c =
    rw c.deeper.ensures (λ G T h a p sane w e. one_stays sane T w e c.if-frame-ne0.false (ap (λ (x : Peg). caught x c.args.set c.args.self.part.reading.outcome) p ∙ sym c.if-is_caught.ensures))
