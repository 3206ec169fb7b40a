use Rattle.std.proofs.Common.{◌≡◌, [], ◌∷◌, ◌++◌, string_bytes, codes, decimal, sym, ap, ◌∙◌}
use Rattle.std.proofs.lemmas.Result.{IfOk-weaker}
use Rattle.rowtext.specs.Answers.{newline, said, said_of, as_line}
use Rattle.rowtext.proofs.Telling.{not_row_line}
use Rattle.rowtext.proofs.answer.Answer.to_text.Goals as goal

pub returns-in-None : goal.returns-in-None
returns-in-None c =
    let line = c.args.line in
    IfOk-weaker c.format-in-None.result (λ text. string_bytes text ≡ codes "line " ++ (decimal line ++ (codes ": not a row of words" ++ (newline ∷ []))))
    (λ text. string_bytes text ≡ as_line (said line c.args.self))
    (λ text e. e ∙ not_row_line line ∙ ap (λ a. as_line (said_of line a)) (sym c.in-None.is))
    c.format-in-None.ensures.ok
