-- What the check says of a row, as a verdict and as text.
use Rattle.std.specs.Prelude.{◌≡◌, ℕ, List, ◌++◌, Ok, Err, Result, MatchResult, codes, decimal}
use Rattle.grammar.specs.declared.fault.FormFault.{FormFault}
use Rattle.grammar.specs.declared.fault.Place.{Place}
use Rattle.grammar.specs.Words.{Peg, meaning}
use Rattle.grammar.specs.Faults.{Report, right, wrong, form_report, place_text}
use Rattle.grammar.specs.Questions.{Reported}
use Rattle.rowtext.specs.declared.verdict.Counts.{Counts}
use Rattle.rowtext.specs.declared.verdict.Verdict.{Verdict}

-- how the numbers of a grammar are written
abbrev pub counts_text : Counts → List ℕ
counts_text n = codes "N " ++ (decimal n.expressions ++ (codes " R " ++ (decimal n.rules ++ (codes " L " ++ (decimal n.labels ++ (codes " S " ++ decimal n.sets))))))

-- how a verdict is written
abbrev pub result_text : Result Counts Place → List ℕ
result_text (Ok n) = codes "accepted " ++ counts_text n
result_text (Err p) = place_text p

abbrev pub verdict_text : Verdict → List ℕ
verdict_text v = result_text v.0

-- a grammar's own numbers, and the verdict with them
abbrev pub counts : Peg → Counts
counts g = record { expressions = g.N; rules = g.R; labels = g.L; sets = g.S }

abbrev pub numbers : Peg → Verdict
numbers g = record { 0 = Ok (counts g) }

-- the report of a place
abbrev pub place_report : Place → Report
place_report p = wrong p.number p.layer p.word

-- the verdict refuses for that fault
abbrev pub Refuses : FormFault → Verdict → Type 0
Refuses f v = MatchResult v.0 (λ n. ⊥) (λ p. place_report p ≡ form_report f)

-- the work words that a check is lent here: twice the most expressions
abbrev pub lent : ℕ
lent = 2000

-- the right verdict on a row is what the check reports, with the numbers of an accepted grammar
abbrev pub Judged : List ℕ → Verdict → Type 0
Judged ws v = MatchResult v.0 (λ n. Reported ws lent right × (n ≡ counts (meaning ws))) (λ p. Reported ws lent (place_report p))

-- the verdict refuses with that number
abbrev pub RefusedBy : ℕ → Verdict → Type 0
RefusedBy number v = MatchResult v.0 (λ n. ⊥) (λ p. p.number ≡ number)
