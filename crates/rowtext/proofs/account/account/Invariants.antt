use Rattle.std.proofs.Common.{length, string_bytes}
use Rattle.rowtext.proofs.Telling.{Sofar}
use Rattle.rowtext.proofs.account.account.Given as goal

abbrev pub invariant-loop-line : goal.invariant-loop-line
invariant-loop-line l = Sofar l.input l.rest (string_bytes l.text) l.lines l.rows l.accepted

abbrev pub decreases-loop-line : goal.decreases-loop-line
decreases-loop-line l = length l.rest
