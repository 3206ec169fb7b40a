use Rattle.std.proofs.Common.{◌<◌, length, Some, None, vec_items, sym, ◌∙◌, arith}
use Rattle.std.proofs.lemmas.Bool.{eqb-false}
use Rattle.rowtext.proofs.Reading.{stop, no_more, row_is}
use Rattle.rowtext.proofs.row.read_row.Goals as goal

pub returns-in_default-read_word : goal.returns-in_default-read_word
returns-in_default-read_word c =
    let piece = c.in-Some.piece.now in
    let some : 0 < length piece = omega (arith, eqb-false (length piece) 0 (sym c.if-is_empty.ensures)) in
    row_is c.args.line.now None
    (stop (vec_items c.loop-piece.words) c.loop-piece.rest.now piece c.in-Some.after.now c.in-Some.ensures.cuts some c.in_default-read_word.ensures
    ∙ c.loop-piece.invariant)

pub returns : goal.returns
returns c =
    let read = vec_items c.loop-piece.words in
    row_is c.args.line.now (Some read) (no_more read c.loop-piece.rest.now c.in_default.ensures.cuts ∙ c.loop-piece.invariant)
