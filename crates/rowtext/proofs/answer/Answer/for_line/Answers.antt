use Rattle.std.proofs.Common.{vec_items}
use Rattle.rowtext.specs.Answers.{Answered}
use Rattle.rowtext.proofs.Sole.{exact}
use Rattle.rowtext.proofs.Judging.{answered_one, answered_as}
use Rattle.rowtext.proofs.answer.Answer.for_line.Goals as goal

pub returns : goal.returns
returns c =
    let line = c.args.line.now in
    let h : Answered line (record { 0 = c.map.result }) = answered_as line vec_items c.in_ok-words.words c.map.result _ c.in_ok-words.ensures c.map.ensures.cases (λ w v judged. judged) in
    exact (Answered line) (record { 0 = c.map.result }) h (λ a. answered_one line (record { 0 = c.map.result }) a h)
