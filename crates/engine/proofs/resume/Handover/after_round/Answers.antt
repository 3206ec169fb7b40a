use Rattle.engine.proofs.Resuming.{round_gives, round_goes}
use Rattle.engine.proofs.resume.Handover.after_round.Goals as goal

pub returns-in-Match : goal.returns-in-Match
returns-in-Match c = rw (c.goes_on.ensures, c.with_round.ensures) (λ G T h sane w e. round_goes sane T w e c.in-Match.is)

pub returns-in-Failure : goal.returns-in-Failure
returns-in-Failure c = rw (c.after_rounds.ensures, c.unmatched.ensures) (λ G T h sane w e. round_gives sane T w e c.in-Failure.is)
