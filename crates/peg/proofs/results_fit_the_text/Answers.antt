use Rattle.peg.proofs.results_fit_the_text.Goals as goal
use Rattle.peg.proofs.Fitting.{fitting}

pub returns : goal.returns
returns c = fitting
