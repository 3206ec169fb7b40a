use Rattle.std.proofs.Common.{arith}
use Rattle.peg.proofs.Worked.{worked}
use Rattle.sitefile.proofs.site_grammar.Goals as goal

pub unwrap-requires : goal.unwrap-requires
unwrap-requires c = c.check.ensures.accepts.1 (worked.site_row.0, omega arith)
