-- The function never runs out of rounds, so that it answers just what the rules say.
use Rattle.std.proofs.Common.{◌≡◌, ℕ, zero, suc, ◌-◌, ◌<◌, ◌≤◌, Bool, true, false, List, Some, None, Option, refl, ap, subst, inl, inr, not-suc-le-zero, eq-or-lt_of_le, arith}
use Rattle.grammar.specs.declared.expr.Mode.{Mode}
use Rattle.grammar.specs.declared.expr.Mode.TheVariants.{On, Off}
use Rattle.grammar.specs.declared.expr.Expr.{Expr}
use Rattle.grammar.specs.declared.expr.Expr.TheVariants.{Empty, Terminal, Call, Sequence, Choice, Repetition, Predicate, Throw}
use Rattle.grammar.specs.Words.{Peg, meaning}
use Rattle.grammar.proofs.Referring.{accepted_whole, accepted_solid}
use Rattle.grammar.specs.Form.{recovers_lem}
use Rattle.peg.specs.declared.results.Outcome.{Outcome}
use Rattle.peg.specs.declared.results.Outcome.TheVariants.{Match, Failure}
use Rattle.peg.specs.declared.results.RulePlace.{RulePlace}
use Rattle.peg.specs.Results.{Given}
use Rattle.peg.specs.Rules.{Text, Gives, RuleGives, caught, one_deeper, of_rule, of_sequence, of_other, of_round, of_predicate, of_recovery}
use Rattle.peg.specs.Rules.{as_its_body}
use Rattle.peg.specs.Halting.{Halts, RuleHalts}
use Rattle.grammar.specs.Form.{Whole, Solid}
use Rattle.peg.specs.Totality.{Ends}
use Rattle.peg.specs.Evaluation.{Answer, gave, halted, unfinished, then, after, sequence_answer, choice_answer, round_answer, rounds, throw_answer, evaluate, evaluate_rule, Evaluates, Evaluation}
use Rattle.peg.proofs.Rules.{one}
use Rattle.peg.proofs.Halting.{apart, one_halt}
use Rattle.peg.proofs.Places.{end_from}
use Rattle.peg.proofs.Totality.{idle, within, Of, numbered, body_of, first_of, second_of, one_of, other_of, part_of, inside_of, recovery_of}
use Rattle.peg.proofs.Answering.{Right, evaluate_right, RuleRight, evaluate_rule_right}

abbrev Finished : Answer → Type 0
Finished (gave v) = Unit {0}
Finished (halted zs) = Unit {0}
Finished unfinished = ⊥

after_finished : (v : Given) (h : Given → Given) (y : Answer) → Finished y → Finished (after v h y)
after_finished v h (gave w) q = tt
after_finished v h (halted zs) q = tt
after_finished v h unfinished q = q

then_finished : (h : Given → Given) (y : Answer) → Finished y → Finished (then y (λ v. gave (h v)))
then_finished h (gave w) q = tt
then_finished h (halted zs) q = tt
then_finished h unfinished q = q

module _ (g : Peg) (whole : Whole g) (solid : Solid g) (t : Text) (n : ℕ) (ends : Ends t n) where
  sequence_finished : (k a i : ℕ) (m : Mode) (f : ℕ → Answer) → i ≤ n → ((j : ℕ) → j ≤ n → Finished (f j)) → (y : Answer) → Right g t k (g.expr a) i m y → Finished y
      → Finished (then y (λ v. sequence_answer v v.outcome f))
  sequence_finished k a i m f le h (gave v) r q = go v.outcome (λ j e. within g t n ends r.0 le j e)
    where
      go : (o : Outcome) → ((j : ℕ) → o ≡ Match j → j ≤ n) → Finished (sequence_answer v o f)
      go (Match j) l = after_finished v (of_sequence v) (f j) (h j (l j refl))
      go (Failure l p) z = tt
  sequence_finished k a i m f le h (halted zs) r q = tt
  sequence_finished k a i m f le h unfinished r q = q

  choice_finished : (s i : ℕ) (f : ℕ → Answer) → Finished (f i) → (y : Answer) → Finished y → Finished (then y (λ v. choice_answer v (caught g s v.outcome) f i))
  choice_finished s i f h (gave v) q = go (caught g s v.outcome)
    where
      go : (o : Bool) → Finished (choice_answer v o f i)
      go true = after_finished v (of_other v) (f i) h
      go false = tt
  choice_finished s i f h (halted zs) q = tt
  choice_finished s i f h unfinished q = q

  throw_finished : (l i : ℕ) (f : ℕ → Answer) (o : Option ℕ) → ((e : ℕ) → o ≡ Some e → Finished (f e)) → Finished (throw_answer o l i f)
  throw_finished l i f None h = tt
  throw_finished l i f (Some e) h = then_finished (of_recovery l i) (f e) (h e refl)

  -- each round ends behind its beginning
  rounds_finished : (k a : ℕ) (m : Mode) (f : ℕ → Answer) → Of g (Repetition a) → ((j : ℕ) → j ≤ n → Finished (f j)) → ((j : ℕ) → Right g t k (g.expr a) j m (f j))
      → (r i : ℕ) → i ≤ n → n - i < r → Finished (rounds f r i)
  rounds_finished k a m f kn h u zero i le l = absurd (not-suc-le-zero l)
  rounds_finished k a m f kn h u (suc r) i le l = go (f i) (u i) (h i le) (rounds_finished k a m f kn h u r)
    where
      pass : (v : Given) (o : Outcome) → ((j : ℕ) → o ≡ Match j → Finished (rounds f r j)) → Finished (round_answer i v o (λ j. rounds f r j))
      pass v (Match j) q = after_finished v (of_round v) (rounds f r j) (q j refl)
      pass v (Failure zero p) q = tt
      pass v (Failure (suc z) p) q = tt

      go : (y : Answer) → Right g t k (g.expr a) i m y → Finished y → ((j : ℕ) → j ≤ n → n - j < r → Finished (rounds f r j))
          → Finished (then y (λ v. round_answer i v v.outcome (λ j. rounds f r j)))
      go (gave v) (d, z) q ih = pass v v.outcome λ j e.
          let w : j ≤ n = within g t n ends d le j e in
          let b : i ≤ j = end_from g t d j e in
          let c : i < j = elim (eq-or-lt_of_le b) [ inl s ↦ absurd (solid kn.number a m kn.low kn.is (idle g t d j e (omega arith))) | inr s ↦ s ] in
          ih j w (omega arith)
      go (halted zs) d q ih = tt
      go unfinished d q ih = q

  finished : (k : ℕ) (x : Expr) (i : ℕ) (m : Mode) → Of g x → i ≤ n → Finished (evaluate g t (suc n) k x i m)
  finished zero x i m kn le = tt
  finished (suc k) Empty i m kn le = tt
  finished (suc k) (Terminal a b c) i m kn le = tt
  finished (suc k) (Call r) i m kn le =
      then_finished (λ v. one_deeper (of_rule r i m v)) (evaluate g t (suc n) k (g.expr (g.body r)) i m) (finished k (g.expr (g.body r)) i m (body_of g whole r kn) le)
  finished (suc k) (Sequence a b) i m kn le =
      sequence_finished k a i m (λ j. evaluate g t (suc n) k (g.expr b) j m) le (λ j l. finished k (g.expr b) j m (second_of g whole a b kn) l)
      (evaluate g t (suc n) k (g.expr a) i m) (evaluate_right g t (suc n) k (g.expr a) i m) (finished k (g.expr a) i m (first_of g whole a b kn) le)
  finished (suc k) (Choice a b s) i m kn le =
      choice_finished s i (λ j. evaluate g t (suc n) k (g.expr b) j m) (finished k (g.expr b) i m (other_of g whole a b s kn) le)
      (evaluate g t (suc n) k (g.expr a) i m) (finished k (g.expr a) i m (one_of g whole a b s kn) le)
  finished (suc k) (Repetition a) i m kn le =
      rounds_finished k a m (λ j. evaluate g t (suc n) k (g.expr a) j m) kn (λ j l. finished k (g.expr a) j m (part_of g whole a kn) l)
      (λ j. evaluate_right g t (suc n) k (g.expr a) j m) (suc n) i le (omega arith)
  finished (suc k) (Predicate a) i m kn le =
      then_finished (of_predicate i) (evaluate g t (suc n) k (g.expr a) i Off) (finished k (g.expr a) i Off (inside_of g whole a kn) le)
  finished (suc k) (Throw l) i m kn le =
      throw_finished l i (λ e. evaluate g t (suc n) k (g.expr e) i On) (recovers_lem g l m) (λ e p. finished k (g.expr e) i On (recovery_of g whole l m e kn p) le)

module _ (g : Peg) (t : Text) (k : ℕ) (x : Expr) (i : ℕ) (m : Mode) where
  gives_so : (v : Given) → Gives g t x i m v → v.depth ≤ k → (y : Answer) → Right g t k x i m y → Finished y → y ≡ gave v
  gives_so v d h (gave w) r q = ap gave (one g t r.0 d)
  gives_so v d h (halted zs) r q = absurd (apart g t r d h)
  gives_so v d h unfinished r q = absurd q

  halts_so : (zs : List RulePlace) → Halts g t k x i m zs → (y : Answer) → Right g t k x i m y → Finished y → y ≡ halted zs
  halts_so zs a (gave w) r q = absurd (apart g t a r.0 r.1)
  halts_so zs a (halted ys) r q = ap halted (one_halt g t r a)
  halts_so zs a unfinished r q = absurd q

  module _ (y : Answer) (right : Right g t k x i m y) where
    so_gives : (v : Given) → y ≡ gave v → Gives g t x i m v × (v.depth ≤ k)
    so_gives v e = subst (Right g t k x i m) e right

    so_halts : (zs : List RulePlace) → y ≡ halted zs → Halts g t k x i m zs
    so_halts zs e = subst (Right g t k x i m) e right

-- the same of a rule-place
module _ (g : Peg) (t : Text) (k r i : ℕ) (m : Mode) where
  rule_so : (v : Given) → RuleGives g t r i m v → v.depth ≤ k
      → ((w : Given) → Gives g t (g.expr (g.body r)) i m w → w.depth ≤ k → (y : Answer) → Right g t k (g.expr (g.body r)) i m y → Finished y → y ≡ gave w)
      → (y : Answer) → Right g t k (g.expr (g.body r)) i m y → Finished y → then y (λ w. gave (of_rule r i m w)) ≡ gave v
  rule_so v (as_its_body {v = w} d) l f y a q = ap (λ z. then z (λ w. gave (of_rule r i m w))) (f w d l y a q)

  so_rule : (y : Answer) → RuleRight g t k r i m y → (v : Given) → y ≡ gave v → RuleGives g t r i m v × (v.depth ≤ k)
  so_rule y h v e = subst (RuleRight g t k r i m) e h

  so_rule_halts : (y : Answer) → RuleRight g t k r i m y → (zs : List RulePlace) → y ≡ halted zs → RuleHalts g t k r i m zs
  so_rule_halts y h zs e = subst (RuleRight g t k r i m) e h

pub evaluates : (g : Peg) → Whole g → Solid g → (t : Text) (n : ℕ) → Ends t n → (k : ℕ) → Evaluates g t n k
evaluates g whole solid t n ends k = record {
  gives = λ e i m h le v. (
    so_gives g t k (g.expr e) i m (answer e i m) (right e i m) v,
    λ d. gives_so g t k (g.expr e) i m v d.0 d.1 (answer e i m) (right e i m) (fin e i m h le),
  );
  halts = λ e i m h le zs. (
    so_halts g t k (g.expr e) i m (answer e i m) (right e i m) zs,
    λ a. halts_so g t k (g.expr e) i m zs a (answer e i m) (right e i m) (fin e i m h le),
  );
  rule_gives = λ r i m h le v. (
    so_rule g t k r i m (evaluate_rule g t (suc n) k r i m) (evaluate_rule_right g t (suc n) k r i m) v,
    λ d. rule_so g t k r i m v d.0 d.1 (gives_so g t k (g.expr (g.body r)) i m) (answer (g.body r) i m) (right (g.body r) i m) (fin (g.body r) i m (whole.0 r h) le),
  );
  rule_halts = λ r i m h le zs. (
    so_rule_halts g t k r i m (evaluate_rule g t (suc n) k r i m) (evaluate_rule_right g t (suc n) k r i m) zs,
    λ a. ap (λ z. then z (λ w. gave (of_rule r i m w))) (halts_so g t k (g.expr (g.body r)) i m zs a (answer (g.body r) i m) (right (g.body r) i m) (fin (g.body r) i m (whole.0 r h) le)),
  );
}
  where
    answer : ℕ → ℕ → Mode → Answer
    answer e i m = evaluate g t (suc n) k (g.expr e) i m

    right : (e i : ℕ) (m : Mode) → Right g t k (g.expr e) i m (evaluate g t (suc n) k (g.expr e) i m)
    right e i m = evaluate_right g t (suc n) k (g.expr e) i m

    fin : (e i : ℕ) (m : Mode) → e < g.N → i ≤ n → Finished (evaluate g t (suc n) k (g.expr e) i m)
    fin e i m h le = finished g whole solid t n ends k (g.expr e) i m (numbered g e h) le

pub evaluation : Evaluation
evaluation = record { of_a_grammar = evaluates; of_an_accepted_row = λ ws a. evaluates (meaning ws) (accepted_whole ws a) (accepted_solid ws a) }
