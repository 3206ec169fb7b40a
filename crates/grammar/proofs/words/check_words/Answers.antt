use Rattle.std.proofs.Common.{below_more}
use Rattle.grammar.proofs.words.check_words.Goals as goal

pub loop-place-preserved : goal.loop-place-preserved
loop-place-preserved c =
    let here = c.if-not-word_formed.ensures in
    let labels = c.labels_of-labels.ensures.value in
    below_more _ _ c.loop-place.invariant (cc)
