-- The account of an input: each line has its answer, in order, and the last line counts them.
use Rattle.std.specs.Prelude.{◌≡◌, ℕ, ◌+◌, List, [], ◌∷◌, ◌++◌, codes, decimal, count_by}
use Rattle.rowtext.specs.declared.answer.Answer.{Answer}
use Rattle.rowtext.specs.Pieces.{pieces}
use Rattle.rowtext.specs.Answers.{Answered, is_row, is_accepted_lem, said, newline, as_line}

-- the lines of an input; a last one without its end counts if it has a byte
abbrev pub lines : List ℕ → List (List ℕ)
lines input = pieces newline input

-- each line has its right answer
pub data EachAnswered : List (List ℕ) → List Answer → Type 0 where
  none : EachAnswered [] []
  more : {line : List ℕ} {ls : List (List ℕ)} {a : Answer} {rest : List Answer} → Answered line a → EachAnswered ls rest → EachAnswered (line ∷ ls) (a ∷ rest)

-- what is written of the lines from that number on
abbrev pub answers_text : ℕ → List Answer → List ℕ
answers_text line [] = []
answers_text line (a ∷ rest) = as_line (said line a) ++ answers_text (line + 1) rest

-- the last line: how many rows there were, and how many of them were accepted
abbrev pub total : List Answer → List ℕ
total answers = codes "rows " ++ (decimal (count_by is_row answers) ++ (codes " accepted " ++ decimal (count_by is_accepted_lem answers)))

-- the output is the account of the input; lines count from 1
pub record Accounted (input output : List ℕ) : Type 0 where
  pub answers : List Answer
  pub each : EachAnswered (lines input) answers
  pub text : output ≡ answers_text 1 answers ++ as_line (total answers)
