use Rattle.std.proofs.Common.{sym, ◌∙◌, le-ltb}
use Rattle.grammar.proofs.Fields.{bit_high}
use Rattle.grammar.proofs.word.holds.Goals as goal

pub returns-else-member-lt32 : goal.returns-else-member-lt32
returns-else-member-lt32 c = le-ltb _ _ c.if-member-lt32.false ∙ sym (bit_high c.args.set c.args.member 32 c.ranges.set.fits c.if-member-lt32.false)
