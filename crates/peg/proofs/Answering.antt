-- The function answers right: what it gave is given, and where it halted the rules halt.
use Rattle.std.proofs.Common.{◌≡◌, ℕ, zero, suc, ◌≤◌, Bool, true, false, Some, None, Option, refl, arith}
use Rattle.grammar.specs.declared.expr.Mode.{Mode}
use Rattle.grammar.specs.declared.expr.Mode.TheVariants.{On, Off}
use Rattle.grammar.specs.declared.expr.Expr.{Expr}
use Rattle.grammar.specs.declared.expr.Expr.TheVariants.{Empty, Terminal, Call, Sequence, Choice, Repetition, Predicate, Throw}
use Rattle.grammar.specs.Words.{Peg}
use Rattle.grammar.specs.Form.{recovers_lem}
use Rattle.peg.specs.declared.results.Outcome.{Outcome}
use Rattle.peg.specs.declared.results.Outcome.TheVariants.{Match, Failure}
use Rattle.peg.specs.Results.{Given}
use Rattle.peg.specs.Rules.{Text, Gives, RuleGives, caught, one_deeper, of_rule, of_sequence, of_other, of_round, of_predicate, of_recovery}
use Rattle.peg.specs.Rules.{empty_matches, terminal_matches, terminal_fails, call_gives, sequence_goes_on, sequence_fails, choice_stays, choice_turns, repetition_ends, repetition_fails, repetition_goes_on, predicate_denies, throw_fails, throw_recovers, as_its_body}
use Rattle.peg.specs.Halting.{Halts, RuleHalts}
use Rattle.peg.specs.Halting.{too_deep, in_body, in_first, in_second, in_one, in_other, in_round, in_later_round, in_predicate, in_recovery}
use Rattle.peg.specs.Evaluation.{Answer, gave, halted, unfinished, then, after, terminal_answer, sequence_answer, choice_answer, round_answer, rounds, throw_answer, step, evaluate, evaluate_rule}

-- what an answer says by the rules
abbrev pub Right : Peg → Text → ℕ → Expr → ℕ → Mode → Answer → Type 0
Right g t k x i m (gave v) = Gives g t x i m v × (v.depth ≤ k)
Right g t k x i m (halted zs) = Halts g t k x i m zs
Right g t k x i m unfinished = Unit {0}

module _ (g : Peg) (t : Text) (k : ℕ) where
  terminal_right : (a b c i : ℕ) (m : Mode) (y : Bool) → t a b i ≡ y → Right g t (suc k) (Terminal a b c) i m (gave (terminal_answer y c i))
  terminal_right a b c i m true e = (terminal_matches e, omega arith)
  terminal_right a b c i m false e = (terminal_fails e, omega arith)

  call_right : (r i : ℕ) (m : Mode) (y : Answer) → Right g t k (g.expr (g.body r)) i m y → Right g t (suc k) (Call r) i m (then y (λ v. gave (one_deeper (of_rule r i m v))))
  call_right r i m (gave v) h = (call_gives h.0, omega arith)
  call_right r i m (halted zs) h = in_body h
  call_right r i m unfinished h = tt

  predicate_right : (a i : ℕ) (m : Mode) (y : Answer) → Right g t k (g.expr a) i Off y → Right g t (suc k) (Predicate a) i m (then y (λ v. gave (of_predicate i v)))
  predicate_right a i m (gave v) h = (predicate_denies h.0, omega arith)
  predicate_right a i m (halted zs) h = in_predicate h
  predicate_right a i m unfinished h = tt

  throw_right : (l i : ℕ) (m : Mode) (y : Option ℕ) (f : ℕ → Answer) → ((e : ℕ) → Right g t k (g.expr e) i On (f e)) → recovers_lem g l m ≡ y
      → Right g t (suc k) (Throw l) i m (throw_answer y l i f)
  throw_right l i m None f h e = (throw_fails e, omega arith)
  throw_right l i m (Some c) f h e = go (f c) (h c)
    where
      go : (y : Answer) → Right g t k (g.expr c) i On y → Right g t (suc k) (Throw l) i m (then y (λ v. gave (of_recovery l i v)))
      go (gave v) q = (throw_recovers e q.0, omega arith)
      go (halted zs) q = in_recovery e q
      go unfinished q = tt

  module _ (f : ℕ → Answer) where
    sequence_last : (a b i j : ℕ) (m : Mode) (v : Given) → Gives g t (g.expr a) i m v → v.depth ≤ k → v.outcome ≡ Match j → (y : Answer) → Right g t k (g.expr b) j m y
        → Right g t (suc k) (Sequence a b) i m (after v (of_sequence v) y)
    sequence_last a b i j m v d l e (gave w) h = (sequence_goes_on d e h.0, omega arith)
    sequence_last a b i j m v d l e (halted zs) h = in_second d l e h
    sequence_last a b i j m v d l e unfinished h = tt

    sequence_next : (a b i : ℕ) (m : Mode) → ((j : ℕ) → Right g t k (g.expr b) j m (f j)) → (v : Given) → Gives g t (g.expr a) i m v → v.depth ≤ k
        → (o : Outcome) → v.outcome ≡ o → Right g t (suc k) (Sequence a b) i m (sequence_answer v o f)
    sequence_next a b i m h v d l (Match j) e = sequence_last a b i j m v d l e (f j) (h j)
    sequence_next a b i m h v d l (Failure z p) e = (sequence_fails d e, omega arith)

    sequence_right : (a b i : ℕ) (m : Mode) → ((j : ℕ) → Right g t k (g.expr b) j m (f j)) → (y : Answer) → Right g t k (g.expr a) i m y
        → Right g t (suc k) (Sequence a b) i m (then y (λ v. sequence_answer v v.outcome f))
    sequence_right a b i m h (gave v) q = sequence_next a b i m h v q.0 q.1 v.outcome refl
    sequence_right a b i m h (halted zs) q = in_first q
    sequence_right a b i m h unfinished q = tt

    choice_last : (a b s i : ℕ) (m : Mode) (v : Given) → Gives g t (g.expr a) i m v → v.depth ≤ k → caught g s v.outcome ≡ true → (y : Answer) → Right g t k (g.expr b) i m y
        → Right g t (suc k) (Choice a b s) i m (after v (of_other v) y)
    choice_last a b s i m v d l e (gave w) h = (choice_turns d e h.0, omega arith)
    choice_last a b s i m v d l e (halted zs) h = in_other d l e h
    choice_last a b s i m v d l e unfinished h = tt

    choice_next : (a b s i : ℕ) (m : Mode) → ((j : ℕ) → Right g t k (g.expr b) j m (f j)) → (v : Given) → Gives g t (g.expr a) i m v → v.depth ≤ k
        → (o : Bool) → caught g s v.outcome ≡ o → Right g t (suc k) (Choice a b s) i m (choice_answer v o f i)
    choice_next a b s i m h v d l true e = choice_last a b s i m v d l e (f i) (h i)
    choice_next a b s i m h v d l false e = (choice_stays d e, omega arith)

    choice_right : (a b s i : ℕ) (m : Mode) → ((j : ℕ) → Right g t k (g.expr b) j m (f j)) → (y : Answer) → Right g t k (g.expr a) i m y
        → Right g t (suc k) (Choice a b s) i m (then y (λ v. choice_answer v (caught g s v.outcome) f i))
    choice_right a b s i m h (gave v) q = choice_next a b s i m h v q.0 q.1 (caught g s v.outcome) refl
    choice_right a b s i m h (halted zs) q = in_one q
    choice_right a b s i m h unfinished q = tt

  repetition_last : (a i j : ℕ) (m : Mode) (v : Given) → Gives g t (g.expr a) i m v → v.depth ≤ k → v.outcome ≡ Match j → (y : Answer) → Right g t (suc k) (Repetition a) j m y
      → Right g t (suc k) (Repetition a) i m (after v (of_round v) y)
  repetition_last a i j m v d l e (gave w) h = (repetition_goes_on d e h.0, omega arith)
  repetition_last a i j m v d l e (halted zs) h = in_later_round d l e h
  repetition_last a i j m v d l e unfinished h = tt

  repetition_next : (f : ℕ → Answer) (a i : ℕ) (m : Mode) → ((j : ℕ) → Right g t (suc k) (Repetition a) j m (f j)) → (v : Given) → Gives g t (g.expr a) i m v → v.depth ≤ k
      → (o : Outcome) → v.outcome ≡ o → Right g t (suc k) (Repetition a) i m (round_answer i v o f)
  repetition_next f a i m h v d l (Match j) e = repetition_last a i j m v d l e (f j) (h j)
  repetition_next f a i m h v d l (Failure zero p) e = (repetition_ends d e, omega arith)
  repetition_next f a i m h v d l (Failure (suc z) p) e = (repetition_fails d e, omega arith)

  repetition_round : (f : ℕ → Answer) (a i : ℕ) (m : Mode) → ((j : ℕ) → Right g t (suc k) (Repetition a) j m (f j)) → (y : Answer) → Right g t k (g.expr a) i m y
      → Right g t (suc k) (Repetition a) i m (then y (λ v. round_answer i v v.outcome f))
  repetition_round f a i m h (gave v) q = repetition_next f a i m h v q.0 q.1 v.outcome refl
  repetition_round f a i m h (halted zs) q = in_round q
  repetition_round f a i m h unfinished q = tt

  repetition_right : (f : ℕ → Answer) (a : ℕ) (m : Mode) → ((j : ℕ) → Right g t k (g.expr a) j m (f j)) → (n i : ℕ) → Right g t (suc k) (Repetition a) i m (rounds f n i)
  repetition_right f a m h zero i = tt
  repetition_right f a m h (suc n) i = repetition_round (rounds f n) a i m (λ j. repetition_right f a m h n j) (f i) (h i)

  step_right : (n : ℕ) (part : ℕ → ℕ → Mode → Answer) → ((e j : ℕ) (m : Mode) → Right g t k (g.expr e) j m (part e j m))
      → (x : Expr) (i : ℕ) (m : Mode) → Right g t (suc k) x i m (step g t n part x i m)
  step_right n part h Empty i m = (empty_matches, omega arith)
  step_right n part h (Terminal a b c) i m = terminal_right a b c i m (t a b i) refl
  step_right n part h (Call r) i m = call_right r i m (part (g.body r) i m) (h (g.body r) i m)
  step_right n part h (Sequence a b) i m = sequence_right (λ j. part b j m) a b i m (λ j. h b j m) (part a i m) (h a i m)
  step_right n part h (Choice a b s) i m = choice_right (λ j. part b j m) a b s i m (λ j. h b j m) (part a i m) (h a i m)
  step_right n part h (Repetition a) i m = repetition_right (λ j. part a j m) a m (λ j. h a j m) n i
  step_right n part h (Predicate a) i m = predicate_right a i m (part a i Off) (h a i Off)
  step_right n part h (Throw l) i m = throw_right l i m (recovers_lem g l m) (λ e. part e i On) (λ e. h e i On) refl

pub evaluate_right : (g : Peg) (t : Text) (n k : ℕ) (x : Expr) (i : ℕ) (m : Mode) → Right g t k x i m (evaluate g t n k x i m)
evaluate_right g t n zero x i m = too_deep
evaluate_right g t n (suc k) x i m = step_right g t k n (λ e j o. evaluate g t n k (g.expr e) j o) (λ e j o. evaluate_right g t n k (g.expr e) j o) x i m

abbrev pub RuleRight : Peg → Text → ℕ → ℕ → ℕ → Mode → Answer → Type 0
RuleRight g t k r i m (gave v) = RuleGives g t r i m v × (v.depth ≤ k)
RuleRight g t k r i m (halted zs) = RuleHalts g t k r i m zs
RuleRight g t k r i m unfinished = Unit {0}

pub evaluate_rule_right : (g : Peg) (t : Text) (n k r i : ℕ) (m : Mode) → RuleRight g t k r i m (evaluate_rule g t n k r i m)
evaluate_rule_right g t n k r i m = go (evaluate g t n k (g.expr (g.body r)) i m) (evaluate_right g t n k (g.expr (g.body r)) i m)
  where
    go : (y : Answer) → Right g t k (g.expr (g.body r)) i m y → RuleRight g t k r i m (then y (λ v. gave (of_rule r i m v)))
    go (gave v) h = (as_its_body h.0, h.1)
    go (halted zs) h = h
    go unfinished h = tt
