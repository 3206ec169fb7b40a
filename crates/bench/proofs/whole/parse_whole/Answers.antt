use Rattle.std.proofs.Common.{refl}
use Rattle.bench.proofs.whole.parse_whole.Goals as goal

pub returns-clause-counts : goal.returns-clause-counts
returns-clause-counts g c = λ first cs ks r v. (c.parse.ensures.law first cs ks r).exactly v refl
