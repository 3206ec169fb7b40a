use Rattle.engine.proofs.Resuming.{first_fails, first_goes, second_gives}
use Rattle.engine.proofs.resume.Handover.after_sequence.Goals as goal

pub returns-then-frame-ne0 : goal.returns-then-frame-ne0
returns-then-frame-ne0 c = rw (c.sequence.ensures, c.so_far.ensures) (λ G T h a sane w e. second_gives sane T w e c.if-frame-ne0.true)

pub returns-in-Match : goal.returns-in-Match
returns-in-Match c = rw c.goes_on.ensures (λ G T h a sane w e. first_goes sane T w e c.if-frame-ne0.false c.in-Match.is)

pub returns-in-Failure : goal.returns-in-Failure
returns-in-Failure c = rw c.deeper.ensures (λ G T h a sane w e. first_fails sane T w e c.if-frame-ne0.false c.in-Failure.is)
