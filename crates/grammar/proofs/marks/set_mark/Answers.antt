use Rattle.std.proofs.Common.{◌<◌, arith}
use Rattle.std.proofs.lemmas.Nat.{one_shl}
use Rattle.grammar.specs.Marks.{fact_bit}
use Rattle.grammar.proofs.Marking.{set_marked, fact_low}
use Rattle.grammar.proofs.marks.set_mark.Goals as goal

pub returns : goal.returns
returns c =
    let low = fact_low c.args.fact in
    let lt : fact_bit c.args.fact < 32 = omega arith in
    rw (c.from-2.ensures, c.from.ensures, c.from-3.ensures, one_shl (fact_bit c.args.fact) 32 lt)
    (set_marked c.args.work.now c.args.fact c.args.number c.args.mode c.requires)
