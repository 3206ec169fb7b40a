-- An edit of a text: what was given before it stands, and what was given behind it moves along.
use Rattle.std.specs.Prelude.{◌≡◌, ℕ, ◌+◌, ◌<◌, ◌≤◌, Bool, List, length}
use Rattle.grammar.specs.declared.expr.Mode.{Mode}
use Rattle.grammar.specs.declared.expr.Expr.{Expr}
use Rattle.grammar.specs.Words.{Peg}
use Rattle.text.specs.Meaning.{accepted, replaced}
use Rattle.peg.specs.declared.results.Reading.{Reading}
use Rattle.peg.specs.Results.{Given}
use Rattle.peg.specs.Rules.{Text, Gives, RuleGives}
use Rattle.peg.specs.Moves.{moved, shift}
use Rattle.peg.specs.Rows.{RowOf}

-- where a place behind the edit goes, when k elements at p become m
abbrev pub along : ℕ → ℕ → ℕ → ℕ → ℕ
along p k m i = shift (p + k) (p + m) i

-- k elements at p of the text t become m in the text u: all before and behind them is the same
pub record Replaces (t u : Text) (p k m : ℕ) : Type 0 where
  pub before : (a b i : ℕ) → i < p → t a b i ≡ u a b i
  pub behind : (a b i : ℕ) → p + k ≤ i → t a b i ≡ u a b (along p k m i)

-- what was given with a reach of at most p still stands; what was given at p + k or later stands m − k further on
pub record Edited (t u : Text) (p k m : ℕ) : Type 0 where
  pub kept : (g : Peg) (x : Expr) (i : ℕ) (o : Mode) (v : Given) → v.reach ≤ p → Gives g t x i o v → Gives g u x i o v
  pub moves : (g : Peg) (x : Expr) (i : ℕ) (o : Mode) (v : Given) → p + k ≤ i → Gives g t x i o v → Gives g u x (along p k m i) o (moved (along p k m) v)
  pub rule_kept : (g : Peg) (r i : ℕ) (o : Mode) (v : Given) → v.reach ≤ p → RuleGives g t r i o v → RuleGives g u r i o v
  pub rule_moves : (g : Peg) (r i : ℕ) (o : Mode) (v : Given) → p + k ≤ i → RuleGives g t r i o v → RuleGives g u r (along p k m i) o (moved (along p k m) v)
  pub row_kept : (g : Peg) (r i : ℕ) (o : Mode) (w : Reading) → i + w.reach ≤ p → RowOf g t r i o w → RowOf g u r i o w
  pub row_moves : (g : Peg) (r i j : ℕ) (o : Mode) (w : Reading) → p + k ≤ i → j + k ≡ i + m → RowOf g t r i o w → RowOf g u r j o w

-- so it is with every replacement of k elements at p of a list by others
abbrev pub Edits : Type 0 → Type 0
Edits E = (fits : ℕ → ℕ → E → Bool) (xs : List E) (p k : ℕ) (ys : List E) → p + k ≤ length xs
    → Edited (accepted fits xs) (accepted fits (replaced xs p k ys)) p k (length ys)
