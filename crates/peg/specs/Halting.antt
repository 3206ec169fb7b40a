-- Too deep: an evaluation with a number of frames, one for each open expression.
use Rattle.std.specs.Prelude.{◌≡◌, ℕ, zero, suc, ◌<◌, ◌≤◌, true, List, [], ◌++◌, Some}
use Rattle.grammar.specs.declared.expr.Mode.{Mode}
use Rattle.grammar.specs.declared.expr.Mode.TheVariants.{On, Off}
use Rattle.grammar.specs.declared.expr.Expr.{Expr}
use Rattle.grammar.specs.declared.expr.Expr.TheVariants.{Call, Sequence, Choice, Repetition, Predicate, Throw}
use Rattle.grammar.specs.Words.{Peg}
use Rattle.grammar.specs.Form.{recovers_lem}
use Rattle.peg.specs.declared.results.Outcome.TheVariants.{Match}
use Rattle.peg.specs.declared.results.RulePlace.{RulePlace}
use Rattle.peg.specs.Results.{Given}
use Rattle.peg.specs.Rules.{Text, caught, Gives, RuleGives}

-- with k frames, the evaluation of an expression comes to one that would stand deeper, when the rule-places zs are completed
pub data Halts (g : Peg) (t : Text) : ℕ → Expr → ℕ → Mode → List RulePlace → Type 0 where
  too_deep : {x : Expr} {i : ℕ} {m : Mode} → Halts g t zero x i m []
  in_body : {k r i : ℕ} {m : Mode} {zs : List RulePlace} → Halts g t k (g.expr (g.body r)) i m zs → Halts g t (suc k) (Call r) i m zs
  in_first : {k a b i : ℕ} {m : Mode} {zs : List RulePlace} → Halts g t k (g.expr a) i m zs → Halts g t (suc k) (Sequence a b) i m zs
  in_second : {k a b i j : ℕ} {m : Mode} {v : Given} {zs : List RulePlace}
      → Gives g t (g.expr a) i m v → v.depth ≤ k → v.outcome ≡ Match j → Halts g t k (g.expr b) j m zs
      → Halts g t (suc k) (Sequence a b) i m (v.completed ++ zs)
  in_one : {k a b s i : ℕ} {m : Mode} {zs : List RulePlace} → Halts g t k (g.expr a) i m zs → Halts g t (suc k) (Choice a b s) i m zs
  in_other : {k a b s i : ℕ} {m : Mode} {v : Given} {zs : List RulePlace}
      → Gives g t (g.expr a) i m v → v.depth ≤ k → caught g s v.outcome ≡ true → Halts g t k (g.expr b) i m zs
      → Halts g t (suc k) (Choice a b s) i m (v.completed ++ zs)
  in_round : {k a i : ℕ} {m : Mode} {zs : List RulePlace} → Halts g t k (g.expr a) i m zs → Halts g t (suc k) (Repetition a) i m zs
  in_later_round : {k a i j : ℕ} {m : Mode} {v : Given} {zs : List RulePlace}
      → Gives g t (g.expr a) i m v → v.depth ≤ k → v.outcome ≡ Match j → Halts g t (suc k) (Repetition a) j m zs
      → Halts g t (suc k) (Repetition a) i m (v.completed ++ zs)
  in_predicate : {k a i : ℕ} {m : Mode} {zs : List RulePlace} → Halts g t k (g.expr a) i Off zs → Halts g t (suc k) (Predicate a) i m zs
  in_recovery : {k l e i : ℕ} {m : Mode} {zs : List RulePlace}
      → recovers_lem g l m ≡ Some e → Halts g t k (g.expr e) i On zs → Halts g t (suc k) (Throw l) i m zs

-- with k frames, the evaluation of a rule-place halts as its body does, which stands 1 deep
abbrev pub RuleHalts : Peg → Text → ℕ → ℕ → ℕ → Mode → List RulePlace → Type 0
RuleHalts g t k r i m zs = Halts g t k (g.expr (g.body r)) i m zs

-- with k frames, a parse halts when the rule-places zs are completed
abbrev pub ParseHalts : Peg → Text → ℕ → List RulePlace → Type 0
ParseHalts g t k zs = RuleHalts g t k 0 0 On zs

-- zs is a first part of all
abbrev pub FirstPart : List RulePlace → List RulePlace → Type 0
FirstPart zs all = (rest : List RulePlace) × (zs ++ rest ≡ all)

-- an evaluation within its frames does not halt; one that is deeper halts, in one way, when a first part of its rule-places is completed
pub record Frames : Type 0 where
  pub within : (g : Peg) (t : Text) (k : ℕ) (x : Expr) (i : ℕ) (m : Mode) (v : Given) (zs : List RulePlace)
      → Gives g t x i m v → v.depth ≤ k → Halts g t k x i m zs → ⊥
  pub once : (g : Peg) (t : Text) (k : ℕ) (x : Expr) (i : ℕ) (m : Mode) (ys zs : List RulePlace)
      → Halts g t k x i m ys → Halts g t k x i m zs → ys ≡ zs
  pub deeper : (g : Peg) (t : Text) (k : ℕ) (x : Expr) (i : ℕ) (m : Mode) (v : Given)
      → Gives g t x i m v → k < v.depth
      → (zs : List RulePlace) × Halts g t k x i m zs × FirstPart zs v.completed
  pub rule_deeper : (g : Peg) (t : Text) (k r i : ℕ) (m : Mode) (v : Given)
      → RuleGives g t r i m v → k < v.depth
      → (zs : List RulePlace) × RuleHalts g t k r i m zs × FirstPart zs v.completed
