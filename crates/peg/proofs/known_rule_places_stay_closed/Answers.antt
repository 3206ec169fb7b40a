use Rattle.peg.proofs.known_rule_places_stay_closed.Goals as goal
use Rattle.peg.proofs.Known.{learns}

pub returns : goal.returns
returns c = learns
