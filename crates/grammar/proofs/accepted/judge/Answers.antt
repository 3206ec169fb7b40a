use Rattle.std.proofs.Common.{◌≡◌, ℕ, List, length, replicate, ap, ◌∙◌, subst, arith}
use Rattle.grammar.specs.Marks.{Judged}
use Rattle.grammar.proofs.Referring.{row_passes}
use Rattle.grammar.proofs.Reporting.{judged_form}
use Rattle.grammar.proofs.accepted.judge.Goals as goal

pub returns : goal.returns
returns c =
    let row = c.in_ok-row.row in
    let after = c.clear-2.new.work in
    let verdict = c.check_form-verdict.result in
    let same : length c.check_form-verdict.new.work ≡ length c.args.work.now = omega arith in
    subst (λ (ws : List ℕ). Judged ws c.args.work.now after verdict) c.in_ok-row.ensures.0
    (judged_form row.words.now c.args.work.now after verdict (row_passes row, c.in_ok-row.ensures.1)
    (c.clear-2.ensures ∙ ap (λ (n : ℕ). replicate n 0) same) c.check_form-verdict.ensures)
