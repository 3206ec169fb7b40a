-- What is given fits the text and the grammar: its places, its labels, and where it may match nothing.
use Rattle.std.specs.Prelude.{◌≡◌, ℕ, ◌+◌, ◌^◌, ◌<◌, ◌≤◌, List, Some, None, Option}
use Rattle.grammar.specs.declared.expr.Mode.{Mode}
use Rattle.grammar.specs.declared.expr.Expr.{Expr}
use Rattle.grammar.specs.declared.expr.Expr.TheVariants.{Terminal, Throw}
use Rattle.grammar.specs.Words.{Peg, meaning}
use Rattle.grammar.specs.Form.{Whole, Nullable}
use Rattle.grammar.specs.Questions.{highest_mark, Accepted}
use Rattle.peg.specs.declared.results.Outcome.{Outcome}
use Rattle.peg.specs.declared.results.Outcome.TheVariants.{Match, Failure}
use Rattle.peg.specs.declared.results.Note.{Note}
use Rattle.peg.specs.declared.results.Reading.{Reading}
use Rattle.peg.specs.Results.{Given, told}
use Rattle.peg.specs.Rules.{Text, Gives, RuleGives}
use Rattle.peg.specs.Totality.{Ends}

-- no label above the grammar's is thrown
abbrev pub Labelled : Peg → Type 0
Labelled g = (e l : ℕ) → e < g.N → g.expr e ≡ Throw l → l ≤ g.L

-- only 32 marks are noted
abbrev pub Marked : Peg → Type 0
Marked g = (e a b c : ℕ) → e < g.N → g.expr e ≡ Terminal a b c → c ≤ highest_mark

abbrev pub OutcomeFits : ℕ → ℕ → Outcome → Type 0
OutcomeFits L n (Match j) = j ≤ n
OutcomeFits L n (Failure l p) = (l ≤ L) × (p ≤ n)

abbrev pub NoteFits : ℕ → Option Note → Type 0
NoteFits n None = Unit {0}
NoteFits n (Some x) = (x.place ≤ n) × (x.marks < 2 ^ 32)

-- labels up to L, places of a text of n elements, and marks of 32 bits
pub record Fits (L n : ℕ) (w : Reading) : Type 0 where
  pub outcome : OutcomeFits L n w.outcome
  pub note : NoteFits n w.note
  pub first_label : w.recoveries.label ≤ L
  pub first_place : w.recoveries.place ≤ n
  pub reach : w.reach ≤ n + 1

-- whatever is given over a text of n elements fits
pub record AllFit (g : Peg) (t : Text) (n : ℕ) : Type 0 where
  pub expression : (e i : ℕ) (m : Mode) → e < g.N → i ≤ n → (v : Given) → Gives g t (g.expr e) i m v → Fits g.L n (told v)
  pub rule : (r i : ℕ) (m : Mode) → r < g.R → i ≤ n → (v : Given) → RuleGives g t r i m v → Fits g.L n (told v)

pub record Fitting : Type 0 where
  -- so it is for a grammar whose references, labels and marks exist, and for every accepted row
  pub of_a_grammar : (g : Peg) → Whole g → Labelled g → Marked g → (t : Text) (n : ℕ) → Ends t n → AllFit g t n
  pub of_an_accepted_row : (ws : List ℕ) → Accepted ws → (t : Text) (n : ℕ) → Ends t n → AllFit (meaning ws) t n
  -- what matches nothing may match nothing
  pub nothing : (g : Peg) (t : Text) (x : Expr) (i : ℕ) (m : Mode) (v : Given) → Gives g t x i m v → v.outcome ≡ Match i → Nullable g m x
  pub rule_nothing : (g : Peg) (t : Text) (r i : ℕ) (m : Mode) (v : Given) → RuleGives g t r i m v → v.outcome ≡ Match i → Nullable g m (g.expr (g.body r))
