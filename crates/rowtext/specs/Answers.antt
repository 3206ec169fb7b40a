-- The answer to one line, and how it is written.
use Rattle.std.specs.Prelude.{ℕ, Bool, false, List, [], ◌∷◌, ◌++◌, Some, None, Option, is_some, is_ok, MatchOption, codes, decimal}
use Rattle.rowtext.specs.declared.answer.Answer.{Answer}
use Rattle.rowtext.specs.declared.verdict.Verdict.{Verdict}
use Rattle.rowtext.specs.Rows.{Writes, IsNotRow}
use Rattle.rowtext.specs.Verdicts.{verdict_text, Judged}

-- the right answer to a line
abbrev pub Answered : List ℕ → Answer → Type 0
Answered line a = MatchOption a.0 (IsNotRow line) (λ v. (ws : List ℕ) × Writes line ws × Judged ws v)

-- whether the line counts as a row
abbrev pub is_row : Answer → Bool
is_row a = is_some a.0

-- whether it is an accepted row
abbrev pub accepts : Option Verdict → Bool
accepts (Some v) = is_ok v.0
accepts None = false

abbrev pub is_accepted_lem : Answer → Bool
is_accepted_lem a = accepts a.0

-- what is said of the line of that number
abbrev pub said_of : ℕ → Option Verdict → List ℕ
said_of line (Some v) = verdict_text v
said_of line None = codes "line " ++ (decimal line ++ codes ": not a row of words")

abbrev pub said : ℕ → Answer → List ℕ
said line a = said_of line a.0

abbrev pub newline : ℕ
newline = 10

-- a text as a line of its own
abbrev pub as_line : List ℕ → List ℕ
as_line text = text ++ (newline ∷ [])
