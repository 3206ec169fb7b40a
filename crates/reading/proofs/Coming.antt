-- What the rules alone come to, with a number of frames: a whole from its parts, and in one way.
use Rattle.std.proofs.Common.{◌≡◌, ℕ, suc, ◌≤◌, true, false, List, ◌++◌, Some, Ok, Err, refl, ap, subst, arith}
use Rattle.grammar.specs.declared.expr.Mode.{Mode}
use Rattle.grammar.specs.declared.expr.Mode.TheVariants.{On, Off}
use Rattle.grammar.specs.declared.expr.Expr.{Expr}
use Rattle.grammar.specs.declared.expr.Expr.TheVariants.{Call, Sequence, Choice, Repetition, Predicate, Throw}
use Rattle.grammar.specs.Words.{Peg}
use Rattle.grammar.specs.Form.{recovers_lem}
use Rattle.peg.specs.declared.results.Outcome.TheVariants.{Match, Failure}
use Rattle.peg.specs.declared.results.Reading.{Reading}
use Rattle.peg.specs.declared.results.RulePlace.{RulePlace}
use Rattle.peg.specs.Results.{Given, told}
use Rattle.peg.specs.Rules.{Text, RuleGives, caught}
use Rattle.peg.specs.Rules.{sequence_goes_on, sequence_fails, choice_stays, choice_turns, repetition_ends, repetition_fails, repetition_goes_on, predicate_denies, throw_recovers, as_its_body}
use Rattle.peg.specs.Halting.{RuleHalts}
use Rattle.peg.specs.Halting.{in_body, in_first, in_second, in_one, in_other, in_round, in_later_round, in_predicate, in_recovery}
use Rattle.peg.specs.Readings.{read_deeper, read_sequence, read_other, read_end, read_round, read_predicate, read_recovery}
use Rattle.peg.specs.Known.{Known}
use Rattle.peg.specs.Counting.{learned}
use Rattle.peg.proofs.Rules.{one, one_rule, call_of_rule}
use Rattle.peg.proofs.Halting.{apart, one_halt}
use Rattle.peg.proofs.Readings.{told_sequence, told_round, told_recovery}
use Rattle.peg.proofs.Completing.{completed, completed_halted}
use Rattle.peg.proofs.Known.{closes}
use Rattle.reading.specs.declared.refusal.Refusal.{Refusal}
use Rattle.reading.specs.Reads.{Res, each}
use Rattle.reading.specs.Truth.{Comes, gives, halts, RuleComes, rule_gives, rule_halts}

module _ (g : Peg) (t : Text) where
  -- a whole, with one frame more than its parts
  module _ (k : ℕ) where
    pub by_call : {r i : ℕ} {m : Mode} {s : Res} {zs : List RulePlace} → RuleComes g t k r i m s zs → Comes g t (suc k) (Call r) i m (each read_deeper s) zs
    by_call (rule_gives d l) = gives (call_of_rule g t d) (omega arith)
    by_call (rule_halts a) = halts (in_body a)

    pub by_first_refused : {a b i : ℕ} {m : Mode} {z : Refusal} {zs : List RulePlace} → Comes g t k (g.expr a) i m (Err z) zs → Comes g t (suc k) (Sequence a b) i m (Err z) zs
    by_first_refused (halts a) = halts (in_first a)

    pub by_first_failing : {a b i l p : ℕ} {m : Mode} {v : Reading} {zs : List RulePlace} → Comes g t k (g.expr a) i m (Ok v) zs → v.outcome ≡ Failure l p
        → Comes g t (suc k) (Sequence a b) i m (Ok (read_deeper v)) zs
    by_first_failing (gives d l) o = gives (sequence_fails d o) (omega arith)

    pub by_both : {a b i j : ℕ} {m : Mode} {v : Reading} {s : Res} {zs ys : List RulePlace} → Comes g t k (g.expr a) i m (Ok v) zs → v.outcome ≡ Match j
        → Comes g t k (g.expr b) j m s ys → Comes g t (suc k) (Sequence a b) i m (each (read_sequence v) s) (zs ++ ys)
    by_both {a} {b} {i} {m = m} (gives {v = v} d l) o (gives {v = w} e n) =
        subst (λ y. Comes g t (suc k) (Sequence a b) i m (Ok y) (v.completed ++ w.completed)) (told_sequence v w) (gives (sequence_goes_on d o e) (omega arith))
    by_both (gives d l) o (halts a) = halts (in_second d l o a)

    pub by_one_refused : {a b c i : ℕ} {m : Mode} {z : Refusal} {zs : List RulePlace} → Comes g t k (g.expr a) i m (Err z) zs → Comes g t (suc k) (Choice a b c) i m (Err z) zs
    by_one_refused (halts a) = halts (in_one a)

    pub by_staying : {a b c i : ℕ} {m : Mode} {v : Reading} {zs : List RulePlace} → Comes g t k (g.expr a) i m (Ok v) zs → caught g c v.outcome ≡ false
        → Comes g t (suc k) (Choice a b c) i m (Ok (read_deeper v)) zs
    by_staying (gives d l) o = gives (choice_stays d o) (omega arith)

    pub by_turning : {a b c i : ℕ} {m : Mode} {v : Reading} {s : Res} {zs ys : List RulePlace} → Comes g t k (g.expr a) i m (Ok v) zs → caught g c v.outcome ≡ true
        → Comes g t k (g.expr b) i m s ys → Comes g t (suc k) (Choice a b c) i m (each (read_other v) s) (zs ++ ys)
    by_turning (gives d l) o (gives e n) = gives (choice_turns d o e) (omega arith)
    by_turning (gives d l) o (halts a) = halts (in_other d l o a)

    pub by_part_refused : {a i : ℕ} {m : Mode} {z : Refusal} {zs : List RulePlace} → Comes g t k (g.expr a) i m (Err z) zs → Comes g t (suc k) (Repetition a) i m (Err z) zs
    by_part_refused (halts a) = halts (in_round a)

    pub by_ending : {a i p : ℕ} {m : Mode} {v : Reading} {zs : List RulePlace} → Comes g t k (g.expr a) i m (Ok v) zs → v.outcome ≡ Failure 0 p
        → Comes g t (suc k) (Repetition a) i m (Ok (read_end i v)) zs
    by_ending (gives d l) o = gives (repetition_ends d o) (omega arith)

    pub by_part_failing : {a i l p : ℕ} {m : Mode} {v : Reading} {zs : List RulePlace} → Comes g t k (g.expr a) i m (Ok v) zs → v.outcome ≡ Failure (suc l) p
        → Comes g t (suc k) (Repetition a) i m (Ok (read_deeper v)) zs
    by_part_failing (gives d l) o = gives (repetition_fails d o) (omega arith)

    pub by_round : {a i j : ℕ} {m : Mode} {v : Reading} {s : Res} {zs ys : List RulePlace} → Comes g t k (g.expr a) i m (Ok v) zs → v.outcome ≡ Match j
        → Comes g t (suc k) (Repetition a) j m s ys → Comes g t (suc k) (Repetition a) i m (each (read_round v) s) (zs ++ ys)
    by_round {a} {i} {m = m} (gives {v = v} d l) o (gives {v = w} e n) =
        subst (λ y. Comes g t (suc k) (Repetition a) i m (Ok y) (v.completed ++ w.completed)) (told_round v w) (gives (repetition_goes_on d o e) (omega arith))
    by_round (gives d l) o (halts a) = halts (in_later_round d l o a)

    pub by_predicate : {a i : ℕ} {m : Mode} {s : Res} {zs : List RulePlace} → Comes g t k (g.expr a) i Off s zs → Comes g t (suc k) (Predicate a) i m (each (read_predicate i) s) zs
    by_predicate (gives d l) = gives (predicate_denies d) (omega arith)
    by_predicate (halts a) = halts (in_predicate a)

    pub by_recovery : {l a i : ℕ} {m : Mode} {s : Res} {zs : List RulePlace} → recovers_lem g l m ≡ Some a → Comes g t k (g.expr a) i On s zs
        → Comes g t (suc k) (Throw l) i m (each (read_recovery l i) s) zs
    by_recovery {l} {a} {i} {m} p (gives {v = v} d n) =
        subst (λ y. Comes g t (suc k) (Throw l) i m (Ok y) v.completed) (told_recovery l i v) (gives (throw_recovers p d) (omega arith))
    by_recovery p (halts a) = halts (in_recovery p a)

    pub by_body_refused : {r i : ℕ} {m : Mode} {z : Refusal} {zs : List RulePlace} → Comes g t k (g.expr (g.body r)) i m (Err z) zs → RuleComes g t k r i m (Err z) zs
    by_body_refused (halts a) = rule_halts a

  -- all that is completed may be learned
  pub comes_closes : {k i : ℕ} {x : Expr} {m : Mode} {s : Res} {zs : List RulePlace} → Comes g t k x i m s zs → (ks : List RulePlace) → Known g t ks → Known g t (learned ks zs)
  comes_closes {i = i} (gives {v = v} d l) ks n = closes g t i v.depth ks v.completed n (completed g t d)
  comes_closes {k} {i} {zs = zs} (halts a) ks n = closes g t i k ks zs n (completed_halted g t a)

  -- in one way
  abbrev SameEnd : Res → Res → List RulePlace → List RulePlace → Type 0
  SameEnd r s zs ys = (r ≡ s) × (zs ≡ ys)

  pub comes_once : {k i : ℕ} {x : Expr} {m : Mode} {r s : Res} {zs ys : List RulePlace} → Comes g t k x i m r zs → Comes g t k x i m s ys → SameEnd r s zs ys
  comes_once (gives d l) (gives e n) = let q = one g t d e in (ap (λ v. Ok (told v)) q, ap (λ v. v.completed) q)
  comes_once (gives d l) (halts a) = absurd (apart g t a d l)
  comes_once (halts a) (gives d l) = absurd (apart g t a d l)
  comes_once (halts a) (halts b) = (refl, one_halt g t a b)

  rule_apart : {k r i : ℕ} {m : Mode} {v : Given} {zs : List RulePlace} → RuleHalts g t k r i m zs → RuleGives g t r i m v → v.depth ≤ k → ⊥
  rule_apart a (as_its_body d) l = apart g t a d l

  pub rule_once : {k r i : ℕ} {m : Mode} {s u : Res} {zs ys : List RulePlace} → RuleComes g t k r i m s zs → RuleComes g t k r i m u ys → SameEnd s u zs ys
  rule_once (rule_gives d l) (rule_gives e n) = let q = one_rule g t d e in (ap (λ v. Ok (told v)) q, ap (λ v. v.completed) q)
  rule_once (rule_gives d l) (rule_halts a) = absurd (rule_apart a d l)
  rule_once (rule_halts a) (rule_gives d l) = absurd (rule_apart a d l)
  rule_once (rule_halts a) (rule_halts b) = (refl, one_halt g t a b)
