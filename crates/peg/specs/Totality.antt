-- Exactly one result, and with a number of frames exactly one of a result and the halt.
use Rattle.std.specs.Prelude.{◌≡◌, ℕ, ◌+◌, ◌*◌, ◌<◌, ◌≤◌, Bool, true, ◌⊎◌, List, length}
use Rattle.grammar.specs.declared.expr.Mode.{Mode}
use Rattle.grammar.specs.Words.{Peg, meaning}
use Rattle.grammar.specs.Form.{Whole, Solid, Ending}
use Rattle.grammar.specs.Questions.{Accepted}
use Rattle.text.specs.Meaning.{accepted}
use Rattle.peg.specs.declared.results.RulePlace.{RulePlace}
use Rattle.peg.specs.Results.{Given}
use Rattle.peg.specs.Rules.{Text, Gives, RuleGives}
use Rattle.peg.specs.Halting.{Halts, RuleHalts}

-- what a check of a grammar settles, in its three parts
abbrev pub WellFormed : Peg → Type 0
WellFormed g = Whole g × Solid g × Ending g

-- a text of n elements: nothing at place n and beyond is accepted
abbrev pub Ends : Text → ℕ → Type 0
Ends t n = (a b i : ℕ) → t a b i ≡ true → i < n

-- no more than this deep, over a text of n elements
abbrev pub deepest : Peg → ℕ → ℕ
deepest g n = 2 * g.N * (n + 1)

-- there is one, it is no deeper than k, and there is no other
abbrev pub OneWithin : (Given → Type 0) → ℕ → Type 0
OneWithin P k = (v : Given) × P v × (v.depth ≤ k) × ((w : Given) → P w → w ≡ v)

-- one of the two holds, and the other does not
abbrev pub JustOne : Type 0 → Type 0 → Type 0
JustOne A B = (A × (B → ⊥)) ⊎ (B × (A → ⊥))

pub record ExactlyOne (g : Peg) (t : Text) (n : ℕ) : Type 0 where
  -- every expression gives one thing at every place in either mode
  pub expression : (e i : ℕ) (m : Mode) → e < g.N → i ≤ n → OneWithin (Gives g t (g.expr e) i m) (deepest g n)
  -- and so does every rule
  pub rule : (r i : ℕ) (m : Mode) → r < g.R → i ≤ n → OneWithin (RuleGives g t r i m) (deepest g n)
  -- with k frames there is a result at most k deep, or the halt, and not both
  pub framed : (k e i : ℕ) (m : Mode) → e < g.N → i ≤ n
      → JustOne ((v : Given) × Gives g t (g.expr e) i m v × (v.depth ≤ k)) ((zs : List RulePlace) × Halts g t k (g.expr e) i m zs)
  pub rule_framed : (k r i : ℕ) (m : Mode) → r < g.R → i ≤ n
      → JustOne ((v : Given) × RuleGives g t r i m v × (v.depth ≤ k)) ((zs : List RulePlace) × RuleHalts g t k r i m zs)

-- so it is over every text, for every well-formed grammar and for every row that the check of a grammar accepts
pub record Total (E : Type 0) : Type 0 where
  pub of_a_grammar : (g : Peg) → WellFormed g → (fits : ℕ → ℕ → E → Bool) (xs : List E) → ExactlyOne g (accepted fits xs) (length xs)
  pub of_an_accepted_row : (ws : List ℕ) → Accepted ws → (fits : ℕ → ℕ → E → Bool) (xs : List E) → ExactlyOne (meaning ws) (accepted fits xs) (length xs)
