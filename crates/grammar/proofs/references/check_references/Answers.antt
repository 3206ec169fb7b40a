use Rattle.std.proofs.Common.{below_more}
use Rattle.grammar.proofs.references.check_references.Goals as goal

pub loop-place-preserved : goal.loop-place-preserved
loop-place-preserved c =
    let here = c.if-not-word_named.ensures in
    below_more _ _ c.loop-place.invariant (cc)
