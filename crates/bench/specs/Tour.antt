-- Runs with every kind of step, over a memory of either kind: so the law is not about nothing.
use Rattle.std.specs.Prelude.{ℕ, zero, suc, Bool, List, [], ◌∷◌, Some, None}
use Rattle.grammar.specs.declared.expr.Mode.TheVariants.{On, Off}
use Rattle.text.specs.Meaning.{byte_in}
use Rattle.peg.specs.declared.results.Outcome.TheVariants.{Match}
use Rattle.peg.specs.Readings.{read_alone}
use Rattle.peg.specs.declared.results.RulePlace.{RulePlace}
use Rattle.memo.specs.Tables.{Table}
use Rattle.reading.specs.Reads.{row_of}
use Rattle.bench.specs.Runs.{settled, slip_out, Change, Run}
use Rattle.bench.specs.Calls.{bounds}

-- a grammar with one rule, whose body is the empty expression
abbrev pub smallest_row : List ℕ
smallest_row = 0x80040100 ∷ 0x90000000 ∷ 0 ∷ []

-- no row is held
abbrev pub no_rows : Table
no_rows r i o = None

-- only rule 0 has a row, in mode on at place 0: a match of nothing
abbrev pub one_row : Table
one_row zero zero On = Some (row_of 0 (read_alone 0 (Match 0) None))
one_row zero zero Off = None
one_row zero (suc i) o = None
one_row (suc r) i o = None

abbrev pub root : RulePlace
root = record { rule = 0; place = 0; mode = On }

-- the byte 65 was put in at place 0
abbrev pub letter_put_in : Change ℕ
letter_put_in = record { place = 0; removed = 0; inserted = 65 ∷ [] }

-- over an empty text of capacity 8, and a memory with places enough
pub record Toured (keeps : Bool) : Type 0 where
  -- open; a parse without frames, which is refused; a parse with one frame, which makes the root known
  pub parses : Run byte_in (bounds keeps 9 3 8) smallest_row [] [] [] one_row (root ∷ []) settled
  -- then clear, and a change
  pub changes : Run byte_in (bounds keeps 9 3 8) smallest_row [] (letter_put_in ∷ []) (65 ∷ []) no_rows [] (slip_out 0 0 1)
  -- then settle, a refused change, and a parse without frames
  pub settles : Run byte_in (bounds keeps 9 3 8) smallest_row [] (letter_put_in ∷ []) (65 ∷ []) no_rows [] settled
  -- over a memory with too few places: open, and a parse that question 8 refuses
  pub uncovered : Run byte_in (bounds keeps 8 3 8) smallest_row [] [] [] no_rows [] settled
