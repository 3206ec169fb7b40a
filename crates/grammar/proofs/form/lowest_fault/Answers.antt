use Rattle.std.proofs.Common.{◌≡◌, ◌+◌, ◌-◌, ◌<◌, length, sym, subst, arith, below_more}
use Rattle.grammar.specs.Words.{meaning}
use Rattle.grammar.specs.Questions.{Lowest, WordAtFault, word_of}
use Rattle.grammar.specs.Marks.{mark, FaultAt}
use Rattle.grammar.proofs.Finding.{lowest_word, faulty_tells}
use Rattle.grammar.proofs.Referring.{row_whole}
use Rattle.grammar.proofs.form.lowest_fault.Goals as goal

pub loop-number-preserved : goal.loop-number-preserved
loop-number-preserved c =
    let low : c.loop-number.number < (meaning c.args.row.now.words.now).N = omega (arith, c.expressions_of-count.ensures.value) in
    below_more _ _ c.loop-number.invariant
    ((faulty_tells (meaning c.args.row.now.words.now) (mark c.args.work.now) (row_whole c.args.row.now) c.args.fact c.requires c.loop-number.number low).1 (sym c.if-at_fault.ensures))

pub returns-then-at_fault : goal.returns-then-at_fault
returns-then-at_fault c =
    let g = meaning c.args.row.now.words.now in
    let count = c.expressions_of-count.ensures.value in
    let low : c.loop-number.number < g.N = omega (arith, count) in
    let at : word_of c.args.row.now.words.now c.loop-number.number ≡ length c.args.row.now.words.now - c.expressions_of-count.result + c.loop-number.number = omega (arith, count) in
    subst (Lowest (WordAtFault c.args.row.now.words.now (FaultAt g c.args.fact))) at
    (lowest_word c.args.row.now.words.now (FaultAt g c.args.fact) c.loop-number.number low
    ((faulty_tells g (mark c.args.work.now) (row_whole c.args.row.now) c.args.fact c.requires c.loop-number.number low).0 (sym c.if-at_fault.ensures))
    c.loop-number.invariant)
