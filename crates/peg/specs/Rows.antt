-- A rule-place's row: what the rule gives there, with places as distances from its own.
use Rattle.std.specs.Prelude.{◌≡◌, ℕ, ◌+◌, ◌-◌, ◌<◌}
use Rattle.grammar.specs.declared.expr.Mode.{Mode}
use Rattle.grammar.specs.Words.{Peg}
use Rattle.peg.specs.declared.results.Reading.{Reading}
use Rattle.peg.specs.Results.{Given, told}
use Rattle.peg.specs.Rules.{Text, RuleGives}
use Rattle.peg.specs.Moves.{moved, moved_outcome, moved_note}
use Rattle.peg.specs.Summaries.{moved_recoveries}

-- each place moved by f; none, and no recoveries, are not moved
abbrev pub moved_reading : (ℕ → ℕ) → Reading → Reading
moved_reading f w = record {
  outcome = moved_outcome f w.outcome;
  note = moved_note f w.note;
  recoveries = moved_recoveries f w.recoveries;
  depth = w.depth;
  reach = f w.reach;
}

-- places as distances from place i
abbrev pub away : ℕ → Reading → Reading
away i w = moved_reading (λ p. p - i) w

-- distances told from place i again
abbrev pub from : ℕ → Reading → Reading
from i w = moved_reading (λ d. i + d) w

-- w is the row of rule r at place i in mode m
abbrev pub RowOf : Peg → Text → ℕ → ℕ → Mode → Reading → Type 0
RowOf g t r i m w = (v : Given) × RuleGives g t r i m v × (w ≡ away i (told v))

pub record Rows : Type 0 where
  -- told from its place, the row of a rule-place is what the rule gives there
  pub told_back : (g : Peg) (t : Text) (r i : ℕ) (m : Mode) (w : Reading) (v : Given) → RowOf g t r i m w → RuleGives g t r i m v → from i w ≡ told v
  -- distances that tell what the rule gives are its row
  pub told_by : (g : Peg) (t : Text) (r i : ℕ) (m : Mode) (w : Reading) (v : Given) → RuleGives g t r i m v → from i w ≡ told v → RowOf g t r i m w
  -- a rule-place has one row at most
  pub one : (g : Peg) (t : Text) (r i : ℕ) (m : Mode) (w x : Reading) → RowOf g t r i m w → RowOf g t r i m x → w ≡ x
  -- the row is the row wherever the elements below its reach are found again
  pub again : (g : Peg) (t u : Text) (r i j : ℕ) (m : Mode) (w : Reading)
      → ((d : ℕ) → d < w.reach → (a b : ℕ) → t a b (i + d) ≡ u a b (j + d))
      → RowOf g t r i m w → RowOf g u r j m w
  -- what is moved is told as it was, moved
  pub moves : (f : ℕ → ℕ) (v : Given) → told (moved f v) ≡ moved_reading f (told v)
