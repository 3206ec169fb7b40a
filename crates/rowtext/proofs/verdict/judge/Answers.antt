use Rattle.std.proofs.Common.{◌≡◌, sym, refl, ap, ◌∙◌, subst}
use Rattle.grammar.specs.Words.{meaning}
use Rattle.grammar.specs.Faults.{right, form_report}
use Rattle.rowtext.specs.Verdicts.{Judged, numbers}
use Rattle.rowtext.proofs.Sole.{exact}
use Rattle.rowtext.proofs.Judging.{judged_refused, judged_one, never_short}
use Rattle.rowtext.proofs.verdict.judge.Goals as goal

pub returns-in-Ok-clause-answers : goal.returns-in-Ok-clause-answers
returns-in-Ok-clause-answers c =
    let ws = c.args.words.now in
    let v = c.accepted.result in
    let told = (c.in-Ok.ensures.answers right).0 refl in
    let e : v ≡ numbers (meaning ws) = c.accepted.ensures ∙ ap (λ us. numbers (meaning us)) c.in-Ok.ensures.grammar in
    let h = subst (Judged ws) (sym e) (told, refl) in
    exact (Judged ws) v h (λ u. judged_one ws v u h)

pub returns-in-Err : goal.returns-in-Err
returns-in-Err c =
    let ws = c.args.words.now in
    let v = c.refused.result in
    let h = judged_refused ws c.in-Err.fault v c.refused.ensures ((c.in-Err.ensures.answers (form_report c.in-Err.fault)).0 refl) in
    record { answers = exact (Judged ws) v h (λ u. judged_one ws v u h); roomy = never_short ws v h }
