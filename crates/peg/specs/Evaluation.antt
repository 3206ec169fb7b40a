-- The rules as a function: with k frames, and a number of rounds granted to each repetition.
use Rattle.std.specs.Prelude.{◌≡◌, ℕ, zero, suc, ◌+◌, ◌<◌, ◌≤◌, Bool, true, false, ◌↔◌, List, [], ◌++◌, Some, None, Option}
use Rattle.grammar.specs.declared.expr.Mode.{Mode}
use Rattle.grammar.specs.declared.expr.Mode.TheVariants.{On, Off}
use Rattle.grammar.specs.declared.expr.Expr.{Expr}
use Rattle.grammar.specs.declared.expr.Expr.TheVariants.{Empty, Terminal, Call, Sequence, Choice, Repetition, Predicate, Throw}
use Rattle.grammar.specs.Words.{Peg, meaning}
use Rattle.grammar.specs.Form.{recovers_lem, Whole, Solid}
use Rattle.grammar.specs.Questions.{Accepted}
use Rattle.peg.specs.declared.results.Outcome.{Outcome}
use Rattle.peg.specs.declared.results.Outcome.TheVariants.{Match, Failure}
use Rattle.peg.specs.declared.results.RulePlace.{RulePlace}
use Rattle.peg.specs.Results.{Given}
use Rattle.peg.specs.Rules.{Text, expected, unmarked, caught, alone, one_deeper, of_rule, of_sequence, of_other, of_end, of_round, of_predicate, of_recovery, Gives, RuleGives}
use Rattle.peg.specs.Halting.{Halts, RuleHalts}
use Rattle.peg.specs.Totality.{Ends}

-- a result, or the halt with what was completed, or a repetition that had more rounds than were granted
pub data Answer : Type 0 where
  gave : Given → Answer
  halted : List RulePlace → Answer
  unfinished : Answer

abbrev pub then : Answer → (Given → Answer) → Answer
then (gave v) f = f v
then (halted zs) f = halted zs
then unfinished f = unfinished

-- what follows v, put together with it by h
abbrev pub after : Given → (Given → Given) → Answer → Answer
after v h (gave w) = gave (h w)
after v h (halted zs) = halted (v.completed ++ zs)
after v h unfinished = unfinished

abbrev pub terminal_answer : Bool → ℕ → ℕ → Given
terminal_answer true c i = alone i (Match (i + 1)) None
terminal_answer false c i = alone i (Failure 0 i) (expected i c)

abbrev pub sequence_answer : Given → Outcome → (ℕ → Answer) → Answer
sequence_answer v (Match j) f = after v (of_sequence v) (f j)
sequence_answer v (Failure l p) f = gave (one_deeper v)

abbrev pub choice_answer : Given → Bool → (ℕ → Answer) → ℕ → Answer
choice_answer v false f i = gave (one_deeper v)
choice_answer v true f i = after v (of_other v) (f i)

abbrev pub round_answer : ℕ → Given → Outcome → (ℕ → Answer) → Answer
round_answer i v (Match j) f = after v (of_round v) (f j)
round_answer i v (Failure zero p) f = gave (of_end i v)
round_answer i v (Failure (suc l) p) f = gave (one_deeper v)

abbrev pub rounds : (ℕ → Answer) → ℕ → ℕ → Answer
rounds f zero i = unfinished
rounds f (suc n) i = then (f i) (λ v. round_answer i v v.outcome (λ j. rounds f n j))

abbrev pub throw_answer : Option ℕ → ℕ → ℕ → (ℕ → Answer) → Answer
throw_answer None l i f = gave (alone i (Failure l i) (unmarked i))
throw_answer (Some e) l i f = then (f e) (λ v. gave (of_recovery l i v))

-- an expression, from its parts' answers
abbrev pub step : Peg → Text → ℕ → (ℕ → ℕ → Mode → Answer) → Expr → ℕ → Mode → Answer
step g t n part Empty i m = gave (alone i (Match i) None)
step g t n part (Terminal a b c) i m = gave (terminal_answer (t a b i) c i)
step g t n part (Call r) i m = then (part (g.body r) i m) (λ v. gave (one_deeper (of_rule r i m v)))
step g t n part (Sequence a b) i m = then (part a i m) (λ v. sequence_answer v v.outcome (λ j. part b j m))
step g t n part (Choice a b s) i m = then (part a i m) (λ v. choice_answer v (caught g s v.outcome) (λ j. part b j m) i)
step g t n part (Repetition a) i m = rounds (λ j. part a j m) n i
step g t n part (Predicate a) i m = then (part a i Off) (λ v. gave (of_predicate i v))
step g t n part (Throw l) i m = throw_answer (recovers_lem g l m) l i (λ e. part e i On)

-- an expression, with n rounds and k frames
abbrev pub evaluate : Peg → Text → ℕ → ℕ → Expr → ℕ → Mode → Answer
evaluate g t n zero x i m = halted []
evaluate g t n (suc k) x i m = step g t n (λ e j o. evaluate g t n k (g.expr e) j o) x i m

-- a rule-place, with n rounds and k frames
abbrev pub evaluate_rule : Peg → Text → ℕ → ℕ → ℕ → ℕ → Mode → Answer
evaluate_rule g t n k r i m = then (evaluate g t n k (g.expr (g.body r)) i m) (λ v. gave (of_rule r i m v))

-- the function answers just what the rules say
pub record Evaluates (g : Peg) (t : Text) (n k : ℕ) : Type 0 where
  pub gives : (e i : ℕ) (m : Mode) → e < g.N → i ≤ n → (v : Given)
      → evaluate g t (suc n) k (g.expr e) i m ≡ gave v ↔ (Gives g t (g.expr e) i m v × (v.depth ≤ k))
  pub halts : (e i : ℕ) (m : Mode) → e < g.N → i ≤ n → (zs : List RulePlace)
      → evaluate g t (suc n) k (g.expr e) i m ≡ halted zs ↔ Halts g t k (g.expr e) i m zs
  pub rule_gives : (r i : ℕ) (m : Mode) → r < g.R → i ≤ n → (v : Given)
      → evaluate_rule g t (suc n) k r i m ≡ gave v ↔ (RuleGives g t r i m v × (v.depth ≤ k))
  pub rule_halts : (r i : ℕ) (m : Mode) → r < g.R → i ≤ n → (zs : List RulePlace)
      → evaluate_rule g t (suc n) k r i m ≡ halted zs ↔ RuleHalts g t k r i m zs

-- so it is over a text of n elements, for a grammar whose references exist and whose repetitions never match nothing, and for every accepted row
pub record Evaluation : Type 0 where
  pub of_a_grammar : (g : Peg) → Whole g → Solid g → (t : Text) (n : ℕ) → Ends t n → (k : ℕ) → Evaluates g t n k
  pub of_an_accepted_row : (ws : List ℕ) → Accepted ws → (t : Text) (n : ℕ) → Ends t n → (k : ℕ) → Evaluates (meaning ws) t n k
