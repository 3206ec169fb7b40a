use Rattle.std.proofs.Common.{◌≡◌, ℕ, Some, ap, subst, rules, arith}
use Rattle.std.specs.Fmt.{DisplaysOnOk, styled_digits_output}
use Rattle.replytext.specs.Marks.{marks_text}
use Rattle.replytext.proofs.Digits.{marks_shown}
use Rattle.replytext.proofs.marks.MarksDisplay.fmt.Goals as goal

-- that the number shown is the marks is asked of the code
pub returns-clause-writes : goal.returns-clause-writes
returns-clause-writes g c =
    let shown : styled_digits_output c.in_radix.result c.laid_out.result ≡ Some (marks_text c.args.self.now.0) = rw (c.laid_out.ensures, c.in_radix.ensures) (ap Some (marks_shown c.args.self.now.0 _ (omega arith) (omega arith))) in
    subst (λ o. DisplaysOnOk g.W.Write.write_str_gives c.args.f.now c.write.result o c.write.new.self) shown c.write.ensures.writes
