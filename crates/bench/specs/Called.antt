-- The runs of the tour again, with what each of their calls did.
use Rattle.std.specs.Prelude.{◌≡◌, ℕ, Bool, List, [], ◌∷◌}
use Rattle.text.specs.Meaning.{byte_in}
use Rattle.peg.specs.declared.results.RulePlace.{RulePlace}
use Rattle.memo.specs.Tables.{Table}
use Rattle.reading.specs.Runs.{Bounds}
use Rattle.bench.specs.Runs.{State, settled, slip_out, Change, Run, opened, changed, change_refused, shifted, parsed, parse_uncovered, cleared}
use Rattle.bench.specs.Calls.{bounds}
use Rattle.bench.specs.Tour.{smallest_row, no_rows, one_row, root, letter_put_in}

-- what a call did
pub data Call : Type 0 where
  opens : Call
  alters : Call
  refuses_change : Call
  follows : Call
  reads : Call
  refuses_parse : Call
  clears : Call

-- the calls of a run, the last first
abbrev pub calls : {E : Type 0} {fits : ℕ → ℕ → E → Bool} {b : Bounds} {ws : List ℕ} {first xs : List E} {cs : List (Change E)} {T : Table} {ks : List RulePlace} {s : State}
    → Run fits b ws first cs xs T ks s → List Call
calls (opened l n e) = opens ∷ []
calls (changed r c q e) = alters ∷ calls r
calls (change_refused p k m r n) = refuses_change ∷ calls r
calls (shifted r e) = follows ∷ calls r
calls (parsed r c d e) = reads ∷ calls r
calls (parse_uncovered r n d) = refuses_parse ∷ calls r
calls (cleared r e) = clears ∷ calls r

-- over an empty text of capacity 8, and a memory with places enough
pub record TouredByCalls (keeps : Bool) : Type 0 where
  -- open; a parse without frames, which is refused; a parse with one frame, which makes the root known
  pub parses : (r : Run byte_in (bounds keeps 9 3 8) smallest_row [] [] [] one_row (root ∷ []) settled) × (calls r ≡ reads ∷ reads ∷ opens ∷ [])
  -- then clear, and a change
  pub changes : (r : Run byte_in (bounds keeps 9 3 8) smallest_row [] (letter_put_in ∷ []) (65 ∷ []) no_rows [] (slip_out 0 0 1)) × (calls r ≡ alters ∷ clears ∷ calls parses.0)
  -- then settle, a refused change, and a parse without frames
  pub settles : (r : Run byte_in (bounds keeps 9 3 8) smallest_row [] (letter_put_in ∷ []) (65 ∷ []) no_rows [] settled) × (calls r ≡ reads ∷ refuses_change ∷ follows ∷ calls changes.0)
  -- over a memory with too few places: open, and a parse that question 8 refuses
  pub uncovered : (r : Run byte_in (bounds keeps 8 3 8) smallest_row [] [] [] no_rows [] settled) × (calls r ≡ refuses_parse ∷ opens ∷ [])
