use Rattle.peg.proofs.fresh_rule_places_are_counted.Goals as goal
use Rattle.peg.proofs.Counting.{counting}

pub returns : goal.returns
returns c = counting
