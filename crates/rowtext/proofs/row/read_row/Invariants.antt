use Rattle.std.proofs.Common.{◌≡◌, length, vec_items}
use Rattle.rowtext.proofs.Reading.{row, row_after}
use Rattle.rowtext.proofs.row.read_row.Given as goal

abbrev pub invariant-loop-piece : goal.invariant-loop-piece
invariant-loop-piece l = row_after (vec_items l.words) l.rest ≡ row l.line

abbrev pub decreases-loop-piece : goal.decreases-loop-piece
decreases-loop-piece l = length l.rest
