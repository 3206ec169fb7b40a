-- Replies and refusals as text.
use Rattle.std.specs.Prelude.{ℕ, List, ◌++◌, Some, None, Ok, Err, codes, decimal, Option, Result}
use Rattle.peg.specs.declared.results.Outcome.{Outcome}
use Rattle.peg.specs.declared.results.Outcome.TheVariants.{Match, Failure}
use Rattle.peg.specs.declared.results.Note.{Note}
use Rattle.peg.specs.declared.results.Recoveries.{Recoveries}
use Rattle.reading.specs.declared.refusal.Refusal.{Refusal}
use Rattle.reading.specs.declared.reply.Answer.{Answer}
use Rattle.reading.specs.declared.reply.Reply.{Reply}
use Rattle.reading.specs.Replies.{number}
use Rattle.replytext.specs.Marks.{marks_text}

-- where the match ends, or which label failed and where
abbrev pub outcome_text : Outcome → List ℕ
outcome_text (Match end) = codes "match " ++ decimal end
outcome_text (Failure label place) = codes "fail " ++ (decimal label ++ (codes " " ++ decimal place))

-- the farthest failure and what was expected there
abbrev pub note_text : Option Note → List ℕ
note_text None = codes "far none marks 00000000"
note_text (Some n) = codes "far " ++ (decimal n.place ++ (codes " marks " ++ marks_text n.marks))

-- how many recoveries there were, and the first of them
abbrev pub recoveries_text : Recoveries → List ℕ
recoveries_text r = codes "recovered " ++ (decimal r.count ++ (codes " first " ++ (decimal r.label ++ (codes " at " ++ decimal r.place))))

abbrev pub answer_text : Answer → List ℕ
answer_text a = outcome_text a.outcome ++ (codes " " ++ (note_text a.note ++ (codes " " ++ recoveries_text a.recoveries)))

-- a refusal by its number
abbrev pub refused_text : ℕ → List ℕ
refused_text n = codes "refused " ++ decimal n

abbrev pub result_text : Result Answer Refusal → List ℕ
result_text (Ok a) = answer_text a
result_text (Err r) = refused_text (number r)

-- the answer or the refusal, and the count of rows put
abbrev pub reply_text : Reply → List ℕ
reply_text q = result_text q.result ++ (codes " fresh " ++ decimal q.fresh)
