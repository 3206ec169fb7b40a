use Rattle.peg.proofs.completes_rule_places_of_the_text.Goals as goal
use Rattle.peg.proofs.Completing.{completes_among}

pub returns : goal.returns
returns c = completes_among
