-- Too deep: within the frames there is no halt, and beyond them just one.
use Rattle.std.proofs.Common.{◌≡◌, ℕ, zero, suc, ◌<◌, ◌≤◌, List, [], ◌∷◌, ◌++◌, sym, refl, ap, ◌∙◌, subst, ap₂, append_assoc, le_of_suc-le-suc, arith}
use native.Mathlib.Decide.{dec_le}
use Rattle.grammar.specs.declared.expr.Mode.{Mode}
use Rattle.grammar.specs.declared.expr.Mode.TheVariants.{On}
use Rattle.grammar.specs.declared.expr.Expr.{Expr}
use Rattle.grammar.specs.declared.expr.Expr.TheVariants.{Sequence, Choice, Repetition}
use Rattle.grammar.specs.Words.{Peg}
use Rattle.peg.specs.declared.results.RulePlace.{RulePlace}
use Rattle.peg.specs.Results.{Given}
use Rattle.peg.specs.Rules.{Text, Gives, RuleGives, of_sequence, of_other, of_round}
use Rattle.peg.specs.Rules.{empty_matches, terminal_matches, terminal_fails, call_gives, sequence_goes_on, sequence_fails, choice_stays, choice_turns, repetition_ends, repetition_fails, repetition_goes_on, predicate_denies, throw_fails, throw_recovers, as_its_body}
use Rattle.peg.specs.Halting.{Halts, RuleHalts, FirstPart}
use Rattle.peg.specs.Halting.{too_deep, in_body, in_first, in_second, in_one, in_other, in_round, in_later_round, in_predicate, in_recovery}
use Rattle.peg.specs.Halting.{Frames}
use Rattle.peg.proofs.Rules.{one}

-- from two numbers that differ
none : {A : Type 0} → ◌≡◌ {A = ℕ} 0 1 → A
none e = let b : ⊥ = omega arith in absurd b

shallow : {A : Type 0} (k : ℕ) → suc k < 1 → A
shallow k h = let b : ⊥ = omega arith in absurd b

module _ (g : Peg) (t : Text) where
  pub some_depth : {x : Expr} {i : ℕ} {m : Mode} {v : Given} → Gives g t x i m v → 1 ≤ v.depth
  some_depth empty_matches = omega arith
  some_depth (terminal_matches p) = omega arith
  some_depth (terminal_fails p) = omega arith
  some_depth (call_gives d) = omega arith
  some_depth (sequence_goes_on d p e) = omega arith
  some_depth (sequence_fails d p) = omega arith
  some_depth (choice_stays d p) = omega arith
  some_depth (choice_turns d p e) = omega arith
  some_depth (repetition_ends d p) = omega arith
  some_depth (repetition_fails d p) = omega arith
  some_depth (repetition_goes_on d p e) = omega arith
  some_depth (predicate_denies d) = omega arith
  some_depth (throw_fails p) = omega arith
  some_depth (throw_recovers p d) = omega arith

  at_place : {x : Expr} {k i j : ℕ} {m : Mode} {zs : List RulePlace} → i ≡ j → Halts g t k x j m zs → Halts g t k x i m zs
  at_place {x} {k} {i} {j} {m} {zs} e d = subst (λ p. Halts g t k x p m zs) (sym e) d

  pub apart : {x : Expr} {i : ℕ} {m : Mode} {v : Given} {k : ℕ} {zs : List RulePlace} → Halts g t k x i m zs → Gives g t x i m v → v.depth ≤ k → ⊥
  apart too_deep d h = omega (arith, some_depth d)
  apart (in_body a) (call_gives d) h = apart a d (omega arith)
  apart (in_first a) (sequence_goes_on d p e) h = apart a d (omega arith)
  apart (in_first a) (sequence_fails d p) h = apart a d (omega arith)
  apart (in_second b l q a) (sequence_goes_on d p e) h = let o = one g t b d in apart (at_place (cc) a) e (omega arith)
  apart (in_second b l q a) (sequence_fails d p) h = let o = one g t b d in none (cc)
  apart (in_one a) (choice_stays d p) h = apart a d (omega arith)
  apart (in_one a) (choice_turns d p e) h = apart a d (omega arith)
  apart (in_other b l q a) (choice_stays d p) h = let o = one g t b d in none (cc)
  apart (in_other b l q a) (choice_turns d p e) h = apart a e (omega arith)
  apart (in_round a) (repetition_ends d p) h = apart a d (omega arith)
  apart (in_round a) (repetition_fails d p) h = apart a d (omega arith)
  apart (in_round a) (repetition_goes_on d p e) h = apart a d (omega arith)
  apart (in_later_round b l q a) (repetition_ends d p) h = let o = one g t b d in none (cc)
  apart (in_later_round b l q a) (repetition_fails d p) h = let o = one g t b d in none (cc)
  apart (in_later_round b l q a) (repetition_goes_on d p e) h = let o = one g t b d in apart (at_place (cc) a) e (omega arith)
  apart (in_predicate a) (predicate_denies d) h = apart a d (omega arith)
  apart (in_recovery q a) (throw_fails p) h = none (cc)
  apart {i} {zs} (in_recovery {k = k} {e = c} q a) (throw_recovers {e = c'} p d) h =
      apart (subst (λ e. Halts g t k (g.expr e) i On zs) (cc) a) d (omega arith)

  pub one_halt : {x : Expr} {i : ℕ} {m : Mode} {k : ℕ} {zs ys : List RulePlace} → Halts g t k x i m zs → Halts g t k x i m ys → zs ≡ ys
  one_halt too_deep too_deep = refl
  one_halt (in_body a) (in_body a') = one_halt a a'
  one_halt (in_first a) (in_first a') = one_halt a a'
  one_halt (in_first a) (in_second b l p a') = absurd (apart a b l)
  one_halt (in_second b l p a) (in_first a') = absurd (apart a' b l)
  one_halt (in_second b l p a) (in_second b' l' p' a') =
      let o = one g t b b' in ap₂ (λ (v : Given) (zs : List RulePlace). v.completed ++ zs) o (one_halt a (at_place (cc) a'))
  one_halt (in_one a) (in_one a') = one_halt a a'
  one_halt (in_one a) (in_other b l p a') = absurd (apart a b l)
  one_halt (in_other b l p a) (in_one a') = absurd (apart a' b l)
  one_halt (in_other b l p a) (in_other b' l' p' a') = ap₂ (λ (v : Given) (zs : List RulePlace). v.completed ++ zs) (one g t b b') (one_halt a a')
  one_halt (in_round a) (in_round a') = one_halt a a'
  one_halt (in_round a) (in_later_round b l p a') = absurd (apart a b l)
  one_halt (in_later_round b l p a) (in_round a') = absurd (apart a' b l)
  one_halt (in_later_round b l p a) (in_later_round b' l' p' a') =
      let o = one g t b b' in ap₂ (λ (v : Given) (zs : List RulePlace). v.completed ++ zs) o (one_halt a (at_place (cc) a'))
  one_halt (in_predicate a) (in_predicate a') = one_halt a a'
  one_halt {i} {ys} (in_recovery {k = k} q a) (in_recovery q' a') = one_halt a (subst (λ e. Halts g t k (g.expr e) i On ys) (cc) a')

  abbrev Halting : ℕ → Expr → ℕ → Mode → Given → Type 0
  Halting k x i m v = (zs : List RulePlace) × Halts g t k x i m zs × FirstPart zs v.completed

  pub deeper : {x : Expr} {i : ℕ} {m : Mode} {v : Given} → Gives g t x i m v → (k : ℕ) → k < v.depth → Halting k x i m v
  deeper empty_matches zero h = ([], too_deep, (_, refl))
  deeper (terminal_matches p) zero h = ([], too_deep, (_, refl))
  deeper (terminal_fails p) zero h = ([], too_deep, (_, refl))
  deeper (call_gives d) zero h = ([], too_deep, (_, refl))
  deeper (sequence_goes_on d p e) zero h = ([], too_deep, (_, refl))
  deeper (sequence_fails d p) zero h = ([], too_deep, (_, refl))
  deeper (choice_stays d p) zero h = ([], too_deep, (_, refl))
  deeper (choice_turns d p e) zero h = ([], too_deep, (_, refl))
  deeper (repetition_ends d p) zero h = ([], too_deep, (_, refl))
  deeper (repetition_fails d p) zero h = ([], too_deep, (_, refl))
  deeper (repetition_goes_on d p e) zero h = ([], too_deep, (_, refl))
  deeper (predicate_denies d) zero h = ([], too_deep, (_, refl))
  deeper (throw_fails p) zero h = ([], too_deep, (_, refl))
  deeper (throw_recovers p d) zero h = ([], too_deep, (_, refl))
  deeper empty_matches (suc k) h = shallow k h
  deeper (terminal_matches p) (suc k) h = shallow k h
  deeper (terminal_fails p) (suc k) h = shallow k h
  deeper {i} {m} (call_gives {r = r} {v = v} d) (suc k) h =
      let q = deeper d k (le_of_suc-le-suc h) in
      let z : List RulePlace = record { rule = r; place = i; mode = m } ∷ [] in
      (q.0, in_body q.1, (q.2.0 ++ z, sym (append_assoc q.0 q.2.0 z) ∙ ap (λ ys. ys ++ z) q.2.1))
  deeper {i} {m} (sequence_goes_on {a = a} {b = b} {j = j} {v = v} {w = w} d p e) (suc k) h = go (dec_le v.depth k) (deeper d k) (deeper e k)
    where
      go : Dec (v.depth ≤ k) → (k < v.depth → Halting k (g.expr a) i m v) → (k < w.depth → Halting k (g.expr b) j m w) → Halting (suc k) (Sequence a b) i m (of_sequence v w)
      go (yes l) f f' = let q = f' (omega arith) in (v.completed ++ q.0, in_second d l p q.1, (q.2.0, append_assoc v.completed q.0 q.2.0 ∙ ap (λ ys. v.completed ++ ys) q.2.1))
      go (no l) f f' = let q = f (omega arith) in (q.0, in_first q.1, (q.2.0 ++ w.completed, sym (append_assoc q.0 q.2.0 w.completed) ∙ ap (λ ys. ys ++ w.completed) q.2.1))
  deeper (sequence_fails d p) (suc k) h = let q = deeper d k (le_of_suc-le-suc h) in (q.0, in_first q.1, q.2)
  deeper (choice_stays d p) (suc k) h = let q = deeper d k (le_of_suc-le-suc h) in (q.0, in_one q.1, q.2)
  deeper {i} {m} (choice_turns {a = a} {b = b} {s = s} {v = v} {w = w} d p e) (suc k) h = go (dec_le v.depth k) (deeper d k) (deeper e k)
    where
      go : Dec (v.depth ≤ k) → (k < v.depth → Halting k (g.expr a) i m v) → (k < w.depth → Halting k (g.expr b) i m w) → Halting (suc k) (Choice a b s) i m (of_other v w)
      go (yes l) f f' = let q = f' (omega arith) in (v.completed ++ q.0, in_other d l p q.1, (q.2.0, append_assoc v.completed q.0 q.2.0 ∙ ap (λ ys. v.completed ++ ys) q.2.1))
      go (no l) f f' = let q = f (omega arith) in (q.0, in_one q.1, (q.2.0 ++ w.completed, sym (append_assoc q.0 q.2.0 w.completed) ∙ ap (λ ys. ys ++ w.completed) q.2.1))
  deeper (repetition_ends d p) (suc k) h = let q = deeper d k (le_of_suc-le-suc h) in (q.0, in_round q.1, q.2)
  deeper (repetition_fails d p) (suc k) h = let q = deeper d k (le_of_suc-le-suc h) in (q.0, in_round q.1, q.2)
  deeper {i} {m} (repetition_goes_on {a = a} {j = j} {v = v} {w = w} d p e) (suc k) h = go (dec_le v.depth k) (deeper d k) (deeper e (suc k))
    where
      go : Dec (v.depth ≤ k) → (k < v.depth → Halting k (g.expr a) i m v) → (suc k < w.depth → Halting (suc k) (Repetition a) j m w) → Halting (suc k) (Repetition a) i m (of_round v w)
      go (yes l) f f' = let q = f' (omega arith) in (v.completed ++ q.0, in_later_round d l p q.1, (q.2.0, append_assoc v.completed q.0 q.2.0 ∙ ap (λ ys. v.completed ++ ys) q.2.1))
      go (no l) f f' = let q = f (omega arith) in (q.0, in_round q.1, (q.2.0 ++ w.completed, sym (append_assoc q.0 q.2.0 w.completed) ∙ ap (λ ys. ys ++ w.completed) q.2.1))
  deeper (predicate_denies d) (suc k) h = let q = deeper d k (le_of_suc-le-suc h) in (q.0, in_predicate q.1, q.2)
  deeper (throw_fails p) (suc k) h = shallow k h
  deeper (throw_recovers p d) (suc k) h = let q = deeper d k (le_of_suc-le-suc h) in (q.0, in_recovery p q.1, q.2)

  pub rule_deeper : {r i : ℕ} {m : Mode} {v : Given} → RuleGives g t r i m v → (k : ℕ) → k < v.depth
      → (zs : List RulePlace) × RuleHalts g t k r i m zs × FirstPart zs v.completed
  rule_deeper {r} {i} {m} (as_its_body {v = v} d) k h =
      let q = deeper d k h in
      let z : List RulePlace = record { rule = r; place = i; mode = m } ∷ [] in
      (q.0, q.1, (q.2.0 ++ z, sym (append_assoc q.0 q.2.0 z) ∙ ap (λ ys. ys ++ z) q.2.1))

pub frames : Frames
frames = record {
  within = λ g t k x i m v zs d h a. apart g t a d h;
  once = λ g t k x i m ys zs a b. one_halt g t a b;
  deeper = λ g t k x i m v d h. deeper g t d k h;
  rule_deeper = λ g t k r i m v d h. rule_deeper g t d k h;
}
