use Rattle.peg.proofs.evaluation_is_the_rules.Goals as goal
use Rattle.peg.proofs.Evaluation.{evaluation}

pub returns : goal.returns
returns c = evaluation
