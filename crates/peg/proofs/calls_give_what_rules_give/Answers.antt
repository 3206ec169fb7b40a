use Rattle.peg.proofs.calls_give_what_rules_give.Goals as goal
use Rattle.peg.proofs.Rules.{calls}

pub returns : goal.returns
returns c = calls
