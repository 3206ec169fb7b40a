use Rattle.std.proofs.Common.{◌≡◌, [], ◌∷◌, ◌++◌, string_bytes, codes, decimal, refl, ap, ◌∙◌}
use Rattle.rowtext.specs.Answers.{newline}
use Rattle.rowtext.specs.Accounts.{Accounted}
use Rattle.rowtext.proofs.Sole.{exact}
use Rattle.rowtext.proofs.Judging.{accounted_one}
use Rattle.rowtext.proofs.Telling.{one_more, closed, total_line}
use Rattle.rowtext.proofs.account.account.Goals as goal

pub loop-line-preserved : goal.loop-line-preserved
loop-line-preserved c =
    let wrote = c.in_ok-push_str.ensures.bytes ∙ ap (λ bs. string_bytes c.loop-line.text ++ bs) (c.as_str.ensures.value ∙ c.in_ok-to_text.ensures) in
    one_more c.loop-line.invariant c.in-Some.line.now c.in-Some.after.now (string_bytes c.push_str.new.self) c.in_ok-answer.answer c.is_row.result
    c.is_accepted.result c.from.result c.from-in-Some.result c.in-Some.ensures.cuts c.in-Some.ensures.falls
    ((c.in_ok-answer.ensures c.in_ok-answer.answer).0 refl) wrote c.is_row.ensures c.from.ensures c.is_accepted.ensures c.from-in-Some.ensures

pub returns : goal.returns
returns c =
    let old = c.loop-line.invariant in
    let text = string_bytes c.loop-line.text in
    let new = string_bytes c.push_str-2.new.self in
    let said : string_bytes c.in_ok-format.field-0 ≡ codes "rows " ++ (decimal c.loop-line.rows ++ (codes " accepted " ++ (decimal c.loop-line.accepted ++ (newline ∷ [])))) =
    c.in_ok-format.ensures.ok in
    let total = said ∙ total_line old.answers c.loop-line.rows c.loop-line.accepted old.rowed old.passed in
    let wrote = c.in_ok-push_str-2.ensures.bytes ∙ ap (λ bs. text ++ bs) (c.as_str-2.ensures.value ∙ total) in
    let h = closed old new c.in_default.ensures.cuts wrote in
    exact (Accounted c.args.input.now) new h (λ output. accounted_one new output h)
