use Rattle.std.proofs.Common.{length}
use Rattle.std.proofs.lemmas.Result.{err_from_is_err_and}
use Rattle.grammar.specs.Faults.{right}
use Rattle.grammar.proofs.Reporting.{exactly, refused}
use Rattle.grammar.proofs.accepted.check.Goals as goal

pub returns-in_err-on-clause-answers : goal.returns-in_err-on-clause-answers
returns-in_err-on-clause-answers c =
    let p = err_from_is_err_and c.from_residual.result c.from_residual.ensures.1 in
    rw (p.1, p.2) (exactly c.args.words.now (length c.args.work.now) _ c.in_err-on.ensures.reported)

pub returns-in_err-on-clause-accepts : goal.returns-in_err-on-clause-accepts
returns-in_err-on-clause-accepts c =
    let p = err_from_is_err_and c.from_residual.result c.from_residual.ensures.1 in
    rw p.1 (refused c.args.words.now (length c.args.work.now) _ c.in_err-on.ensures.reported)

pub returns-clause-answers : goal.returns-clause-answers
returns-clause-answers c = exactly c.args.words.now (length c.args.work.now) right c.in_ok-on.ensures.reported
