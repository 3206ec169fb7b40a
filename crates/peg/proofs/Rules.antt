-- An expression gives at most one thing; a call gives what its rule gives.
use Rattle.std.proofs.Common.{◌≡◌, ℕ, sym, refl, ap, subst, ap₂}
use Rattle.peg.specs.Rules.{AtMostOne, Calls}
use Rattle.grammar.specs.declared.expr.Mode.{Mode}
use Rattle.grammar.specs.declared.expr.Mode.TheVariants.{On}
use Rattle.grammar.specs.declared.expr.Expr.{Expr}
use Rattle.grammar.specs.declared.expr.Expr.TheVariants.{Call}
use Rattle.grammar.specs.Words.{Peg}
use Rattle.peg.specs.Results.{Given}
use Rattle.peg.specs.Rules.{Text, Gives, RuleGives, one_deeper, of_rule, of_sequence, of_other, of_end, of_round, of_predicate, of_recovery}
use Rattle.peg.specs.Rules.{empty_matches, terminal_matches, terminal_fails, call_gives, sequence_goes_on, sequence_fails, choice_stays, choice_turns, repetition_ends, repetition_fails, repetition_goes_on, predicate_denies, throw_fails, throw_recovers, as_its_body}

module _ (g : Peg) (t : Text) where
  pub from_place : {x : Expr} {i j : ℕ} {m : Mode} {v : Given} → i ≡ j → Gives g t x j m v → Gives g t x i m v
  from_place {x} {i} {j} {m} {v} e d = subst (λ k. Gives g t x k m v) (sym e) d

  -- where two derivations part, their outcomes contradict one another
  pub one : {x : Expr} {i : ℕ} {m : Mode} {v w : Given} → Gives g t x i m v → Gives g t x i m w → v ≡ w
  one empty_matches empty_matches = refl
  one (terminal_matches p) (terminal_matches q) = refl
  one (terminal_matches p) (terminal_fails q) = cc
  one (terminal_fails p) (terminal_matches q) = cc
  one (terminal_fails p) (terminal_fails q) = refl
  one {i} {m} (call_gives {r = r} d) (call_gives d') = ap (λ v. one_deeper (of_rule r i m v)) (one d d')
  one (sequence_goes_on d p e) (sequence_goes_on d' p' e') = let h = one d d' in ap₂ of_sequence h (one e (from_place (cc) e'))
  one (sequence_goes_on d p e) (sequence_fails d' p') = cc (one d d')
  one (sequence_fails d p) (sequence_goes_on d' p' e') = cc (one d d')
  one (sequence_fails d p) (sequence_fails d' p') = ap one_deeper (one d d')
  one (choice_stays d p) (choice_stays d' p') = ap one_deeper (one d d')
  one (choice_stays d p) (choice_turns d' p' e') = cc (one d d')
  one (choice_turns d p e) (choice_stays d' p') = cc (one d d')
  one (choice_turns d p e) (choice_turns d' p' e') = ap₂ of_other (one d d') (one e e')
  one {i} (repetition_ends d p) (repetition_ends d' p') = ap (of_end i) (one d d')
  one (repetition_ends d p) (repetition_fails d' p') = cc (one d d')
  one (repetition_ends d p) (repetition_goes_on d' p' e') = cc (one d d')
  one (repetition_fails d p) (repetition_ends d' p') = cc (one d d')
  one (repetition_fails d p) (repetition_fails d' p') = ap one_deeper (one d d')
  one (repetition_fails d p) (repetition_goes_on d' p' e') = cc (one d d')
  one (repetition_goes_on d p e) (repetition_ends d' p') = cc (one d d')
  one (repetition_goes_on d p e) (repetition_fails d' p') = cc (one d d')
  one (repetition_goes_on d p e) (repetition_goes_on d' p' e') = let h = one d d' in ap₂ of_round h (one e (from_place (cc) e'))
  one {i} (predicate_denies d) (predicate_denies d') = ap (of_predicate i) (one d d')
  one (throw_fails p) (throw_fails q) = refl
  one (throw_fails p) (throw_recovers q e) = cc
  one (throw_recovers q e) (throw_fails p) = cc
  one {i} (throw_recovers {l = l} {e = e} {v = v} p d) (throw_recovers {e = e'} {v = w} p' d') =
      ap (of_recovery l i) (one d (subst (λ k. Gives g t (g.expr k) i On w) (cc) d'))

  -- and so does a rule
  pub one_rule : {r i : ℕ} {m : Mode} {v w : Given} → RuleGives g t r i m v → RuleGives g t r i m w → v ≡ w
  one_rule {r} {i} {m} (as_its_body d) (as_its_body e) = ap (of_rule r i m) (one d e)

  -- a call and its rule
  pub call_of_rule : {r i : ℕ} {m : Mode} {v : Given} → RuleGives g t r i m v → Gives g t (Call r) i m (one_deeper v)
  call_of_rule (as_its_body d) = call_gives d

  pub rule_of_call : {r i : ℕ} {m : Mode} {w : Given} → Gives g t (Call r) i m w → (v : Given) × RuleGives g t r i m v × (w ≡ one_deeper v)
  rule_of_call {r} {i} {m} (call_gives {v = v} d) = (of_rule r i m v, as_its_body d, refl)

pub calls : Calls
calls = record { given = λ g t r i m v d. call_of_rule g t d; only = λ g t r i m w d. rule_of_call g t d }

pub at_most_one : AtMostOne
at_most_one = record { of_an_expression = λ g t x i m v w d e. one g t d e; of_a_rule = λ g t r i m v w d e. one_rule g t d e }
