-- What was given, moved with its text.
use Rattle.std.specs.Prelude.{◌≡◌, ℕ, ◌+◌, ◌-◌, ◌<◌, ◌≤◌, map, Some, None, Option}
use Rattle.grammar.specs.declared.expr.Mode.{Mode}
use Rattle.grammar.specs.declared.expr.Expr.{Expr}
use Rattle.grammar.specs.Words.{Peg}
use Rattle.peg.specs.declared.results.Outcome.{Outcome}
use Rattle.peg.specs.declared.results.Outcome.TheVariants.{Match, Failure}
use Rattle.peg.specs.declared.results.Note.{Note}
use Rattle.peg.specs.declared.results.RulePlace.{RulePlace}
use Rattle.peg.specs.Results.{Recovery, Given}
use Rattle.peg.specs.Rules.{Text, Gives, RuleGives}

-- each place moved by f

abbrev pub moved_outcome : (ℕ → ℕ) → Outcome → Outcome
moved_outcome f (Match j) = Match (f j)
moved_outcome f (Failure l p) = Failure l (f p)

abbrev pub moved_note : (ℕ → ℕ) → Option Note → Option Note
moved_note f None = None
moved_note f (Some n) = Some (record { place = f n.place; marks = n.marks })

abbrev pub moved_recovery : (ℕ → ℕ) → Recovery → Recovery
moved_recovery f r = record { label = r.label; place = f r.place; end = f r.end }

abbrev pub moved_rule_place : (ℕ → ℕ) → RulePlace → RulePlace
moved_rule_place f z = record { rule = z.rule; place = f z.place; mode = z.mode }

abbrev pub moved : (ℕ → ℕ) → Given → Given
moved f v = record {
  outcome = moved_outcome f v.outcome;
  note = moved_note f v.note;
  recoveries = map (moved_recovery f) v.recoveries;
  depth = v.depth;
  reach = f v.reach;
  completed = map (moved_rule_place f) v.completed;
}

-- where place p goes, when place a goes to place b
unfoldable pub shift : ℕ → ℕ → ℕ → ℕ
shift a b p = (p - a) + b

-- two texts agree from place i up to place r, where place a of the one is place b of the other
abbrev pub Agree : Text → Text → ℕ → ℕ → ℕ → ℕ → Type 0
Agree t u a b i r = (p : ℕ) → i ≤ p → p < r → (c d : ℕ) → t c d p ≡ u c d (shift a b p)

pub record Local : Type 0 where
  -- what is given rests only on the elements below its reach
  pub in_place : (g : Peg) (t u : Text) (x : Expr) (i : ℕ) (m : Mode) (v : Given)
      → ((a b p : ℕ) → p < v.reach → t a b p ≡ u a b p) → Gives g t x i m v → Gives g u x i m v
  -- and moves with them
  pub of_an_expression : (g : Peg) (t u : Text) (a b : ℕ) (x : Expr) (i : ℕ) (m : Mode) (v : Given)
      → a ≤ i → Agree t u a b i v.reach → Gives g t x i m v → Gives g u x (shift a b i) m (moved (shift a b) v)
  pub of_a_rule : (g : Peg) (t u : Text) (a b r i : ℕ) (m : Mode) (v : Given)
      → a ≤ i → Agree t u a b i v.reach → RuleGives g t r i m v → RuleGives g u r (shift a b i) m (moved (shift a b) v)
