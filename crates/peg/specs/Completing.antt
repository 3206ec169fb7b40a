-- What an evaluation completed: where, how deep, how far, and with all that is inside it.
use Rattle.std.specs.Prelude.{ℕ, suc, ◌<◌, ◌≤◌, List}
use Rattle.grammar.specs.declared.expr.Mode.{Mode}
use Rattle.grammar.specs.declared.expr.Expr.{Expr}
use Rattle.grammar.specs.Words.{Peg, meaning}
use Rattle.grammar.specs.Form.{Whole}
use Rattle.grammar.specs.Questions.{Accepted}
use Rattle.peg.specs.Members.{In}
use Rattle.peg.specs.declared.results.RulePlace.{RulePlace}
use Rattle.peg.specs.Results.{Given}
use Rattle.peg.specs.Rules.{Text, Gives, RuleGives}
use Rattle.peg.specs.Halting.{Halts, RuleHalts}
use Rattle.peg.specs.Totality.{Ends}

-- the rule of the rule-place gives v there
abbrev pub PlaceGives : Peg → Text → RulePlace → Given → Type 0
PlaceGives g t z v = RuleGives g t z.rule z.place z.mode v

-- a rule-place of the list zs that was completed at place i or later, less than d deep, with all that was completed inside it
pub record Completed (g : Peg) (t : Text) (i d : ℕ) (zs : List RulePlace) (z : RulePlace) : Type 0 where
  pub result : Given
  pub gives : PlaceGives g t z result
  pub not_before : i ≤ z.place
  pub shallower : result.depth < d
  pub inside : (y : RulePlace) → In y result.completed → In y zs

pub record Completes : Type 0 where
  -- what an evaluation completed was completed in it, at no smaller place
  pub given : (g : Peg) (t : Text) (x : Expr) (i : ℕ) (m : Mode) (v : Given) → Gives g t x i m v
      → (z : RulePlace) → In z v.completed → Completed g t i v.depth v.completed z
  -- with no greater reach
  pub reach : (g : Peg) (t : Text) (x : Expr) (i : ℕ) (m : Mode) (v : Given) → Gives g t x i m v
      → (z : RulePlace) → In z v.completed → (w : Given) → PlaceGives g t z w → w.reach ≤ v.reach
  -- the same of what was completed before a halt
  pub halted : (g : Peg) (t : Text) (k : ℕ) (x : Expr) (i : ℕ) (m : Mode) (zs : List RulePlace) → Halts g t k x i m zs
      → (z : RulePlace) → In z zs → Completed g t i k zs z
  -- and of what a rule-place completed, itself among it
  pub rule : (g : Peg) (t : Text) (r i : ℕ) (m : Mode) (v : Given) → RuleGives g t r i m v
      → (z : RulePlace) → In z v.completed → Completed g t i (suc v.depth) v.completed z
  pub rule_reach : (g : Peg) (t : Text) (r i : ℕ) (m : Mode) (v : Given) → RuleGives g t r i m v
      → (z : RulePlace) → In z v.completed → (w : Given) → PlaceGives g t z w → w.reach ≤ v.reach
  -- no rule-place is evaluated inside its own evaluation
  pub never_inside_itself : (g : Peg) (t : Text) (r i : ℕ) (m : Mode) (v : Given) → Gives g t (g.expr (g.body r)) i m v
      → In (record { rule = r; place = i; mode = m }) v.completed → ⊥
  pub never_inside_itself_halted : (g : Peg) (t : Text) (k r i : ℕ) (m : Mode) (zs : List RulePlace) → RuleHalts g t k r i m zs
      → In (record { rule = r; place = i; mode = m }) zs → ⊥

-- a rule-place of one of R rules at a place of a text of n elements
abbrev pub Among : ℕ → ℕ → RulePlace → Type 0
Among R n z = (z.rule < R) × (z.place ≤ n)

-- all that is completed over a text of n elements are rule-places of the grammar there
pub record AllAmong (g : Peg) (t : Text) (n : ℕ) : Type 0 where
  pub given : (e i : ℕ) (m : Mode) → e < g.N → i ≤ n → (v : Given) → Gives g t (g.expr e) i m v
      → (z : RulePlace) → In z v.completed → Among g.R n z
  pub rule : (r i : ℕ) (m : Mode) → r < g.R → i ≤ n → (v : Given) → RuleGives g t r i m v
      → (z : RulePlace) → In z v.completed → Among g.R n z
  pub halted : (k e i : ℕ) (m : Mode) → e < g.N → i ≤ n → (zs : List RulePlace) → Halts g t k (g.expr e) i m zs
      → (z : RulePlace) → In z zs → Among g.R n z
  pub rule_halted : (k r i : ℕ) (m : Mode) → r < g.R → i ≤ n → (zs : List RulePlace) → RuleHalts g t k r i m zs
      → (z : RulePlace) → In z zs → Among g.R n z

-- so it is for a grammar whose references exist, and for every accepted row
pub record CompletesAmong : Type 0 where
  pub of_a_grammar : (g : Peg) → Whole g → (t : Text) (n : ℕ) → Ends t n → AllAmong g t n
  pub of_an_accepted_row : (ws : List ℕ) → Accepted ws → (t : Text) (n : ℕ) → Ends t n → AllAmong (meaning ws) t n
