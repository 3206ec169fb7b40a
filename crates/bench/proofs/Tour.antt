-- The runs, step by step.
use Rattle.std.proofs.Common.{◌≡◌, ℕ, zero, suc, ◌≤◌, Bool, true, ◌⊎◌, List, [], ◌∷◌, Some, None, Ok, Err, refl, inl, inr, arith}
use Rattle.grammar.specs.declared.expr.Mode.{Mode}
use Rattle.grammar.specs.declared.expr.Mode.TheVariants.{On, Off}
use Rattle.grammar.specs.Words.{meaning}
use Rattle.text.specs.Meaning.{accepted, byte_in}
use Rattle.peg.specs.declared.results.Outcome.TheVariants.{Match}
use Rattle.peg.specs.Readings.{read_alone}
use Rattle.peg.specs.declared.results.RulePlace.{RulePlace}
use Rattle.peg.specs.Rules.{empty_matches, as_its_body}
use Rattle.peg.specs.Halting.{too_deep}
use Rattle.peg.specs.Settling.{Remains, kept, moves}
use Rattle.memo.specs.declared.row.Row.{Row}
use Rattle.memo.specs.Tables.{Same, Puts, Shifts}
use Rattle.reading.specs.declared.refusal.Refusal.TheVariants.{Uncovered, TooDeep}
use Rattle.reading.specs.Reads.{store, row_of, Reads}
use Rattle.reading.specs.Replies.{answer_of, Replies, uncovered, covered}
use Rattle.reading.specs.Truth.{rule_gives, rule_halts}
use Rattle.reading.specs.Runs.{Bounds, parse_of}
use Rattle.reading.proofs.Once.{none}
use Rattle.bench.specs.Runs.{settled, slip_out, Run, opened, changed, change_refused, shifted, parsed, parse_uncovered, cleared}
use Rattle.bench.specs.Calls.{bounds}
use Rattle.bench.specs.Tour.{smallest_row, no_rows, one_row, root, letter_put_in, Toured}
use Rattle.bench.specs.Called.{TouredByCalls}

module _ (keeps : Bool) where
  abbrev b : Bounds
  b = bounds keeps 9 3 8

  -- without frames a parse is too deep, and puts nothing
  no_frames : (xs : List ℕ) → Replies (parse_of (meaning smallest_row) byte_in xs 0 b) 8 no_rows (record { result = Err TooDeep; fresh = 0 }) no_rows
  no_frames xs = covered {r = Err TooDeep} {U = store no_rows 0} (omega arith, omega arith) (Reads.body_refused refl (Reads.too_deep (omega arith)))

  others : (r i : ℕ) (o : Mode) (y : Row) → one_row r i o ≡ Some y → Same r i o 0 0 On ⊎ (no_rows r i o ≡ Some y)
  others zero zero On y q = inl (refl, refl, refl)
  others zero zero Off y q = inr q
  others zero (suc i) o y q = inr q
  others (suc r) i o y q = inr q

  all : keeps ≡ true → (r i : ℕ) (o : Mode) → (Same r i o 0 0 On → ⊥) → one_row r i o ≡ no_rows r i o
  all k zero zero On n = absurd (n (refl, refl, refl))
  all k zero zero Off n = refl
  all k zero (suc i) o n = refl
  all k (suc r) i o n = refl

  outside : (3 ≤ 0) ⊎ (9 ≤ 0) → (r i : ℕ) (o : Mode) → one_row r i o ≡ no_rows r i o
  outside (inl l) = absurd (omega arith)
  outside (inr l) = absurd (omega arith)

  puts : Puts keeps 9 3 no_rows 0 0 On (row_of 0 (read_alone 0 (Match 0) None)) one_row
  puts = record { stands = λ _ _. refl; others = others; outside = outside; all = all }

  one_frame : Replies (parse_of (meaning smallest_row) byte_in [] 1 b) 8 no_rows (record { result = answer_of (Ok (read_alone 0 (Match 0) None)); fresh = 1 }) one_row
  one_frame = covered {r = Ok (read_alone 0 (Match 0) None)} {U = store one_row 1} (omega arith, omega arith)
      (Reads.body_gives {U = store no_rows 0} refl (Reads.empty (omega arith) refl) (record { puts = puts; counts = omega arith }))

  parses : Run byte_in b smallest_row [] [] [] one_row (root ∷ []) settled
  parses = parsed {zs = root ∷ []} {frames = 1}
      (parsed {zs = []} {frames = 0} (opened {T = no_rows} (omega arith) (omega arith) (λ r i o. refl)) (omega arith, omega arith) (no_frames []) (rule_halts too_deep))
      (omega arith, omega arith) one_frame (rule_gives (as_its_body empty_matches) (omega arith))

  nothing_remains : (z : RulePlace) → Remains (meaning smallest_row) (accepted byte_in []) 0 0 1 [] z → ⊥
  nothing_remains z (kept i l d r) = i
  nothing_remains z (moves i l) = i

  changes : Run byte_in b smallest_row [] (letter_put_in ∷ []) (65 ∷ []) no_rows [] (slip_out 0 0 1)
  changes = changed {ys = 65 ∷ []} {p = 0} {k = 0} (cleared parses (λ r i o. refl)) (omega arith, omega arith) refl (λ z. ((λ i. absurd i), λ m. nothing_remains z m))

  shifts : Shifts keeps 9 0 0 1 no_rows no_rows
  shifts = record { only = λ r i o x q. none (cc); all = λ k r i o x h. elim h [ inl y ↦ y.held | inr y ↦ y.held ] }

  settles : Run byte_in b smallest_row [] (letter_put_in ∷ []) (65 ∷ []) no_rows [] settled
  settles = parsed {zs = []} {frames = 0} (change_refused 9 0 0 (shifted changes shifts) (λ c. let l = c.0 in omega arith)) (omega arith, omega arith) (no_frames (65 ∷ [])) (rule_halts too_deep)

  not_covered : Run byte_in (bounds keeps 8 3 8) smallest_row [] [] [] no_rows [] settled
  not_covered = parse_uncovered {frames = 1} {q = record { result = Err Uncovered; fresh = 0 }} (opened {T = no_rows} (omega arith) (omega arith) (λ r i o. refl))
      (λ c. let l = c.0 in omega arith) (uncovered (λ c. let l = c.0 in omega arith))

pub toured : (keeps : Bool) → Toured keeps
toured keeps = record { parses = parses keeps; changes = changes keeps; settles = settles keeps; uncovered = not_covered keeps }

pub toured_by_calls : (keeps : Bool) → TouredByCalls keeps
unfolding parses changes settles not_covered
toured_by_calls keeps = record { parses = (parses keeps, refl); changes = (changes keeps, refl); settles = (settles keeps, refl); uncovered = (not_covered keeps, refl) }
