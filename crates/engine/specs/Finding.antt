-- What is computed of a row that was found.
use Rattle.std.specs.Prelude.{ℕ, ◌+◌, ◌<◌, ◌≤◌, Bool, true, false, ◌&&◌, Some, None, Ok, Err, Option, Result, ◌==◌, nat_le}
use Rattle.grammar.specs.declared.expr.Mode.{Mode}
use Rattle.peg.specs.declared.results.Outcome.{Outcome}
use Rattle.peg.specs.declared.results.Outcome.TheVariants.{Match, Failure}
use Rattle.peg.specs.declared.results.Note.{Note}
use Rattle.peg.specs.declared.results.Reading.{Reading}
use Rattle.memo.specs.declared.row.Row.{Row}
use Rattle.memo.specs.Rows.{told_from}
use Rattle.reading.specs.declared.refusal.Refusal.{Refusal}
use Rattle.reading.specs.declared.refusal.Refusal.TheVariants.{Unfit, TooDeep}
use Rattle.reading.specs.Reads.{Setting, Fits}

abbrev pub outcome_fits : ℕ → ℕ → Outcome → Bool
outcome_fits n L (Match j) = nat_le j n
outcome_fits n L (Failure l p) = nat_le l L && nat_le p n

abbrev pub note_fits_lem : ℕ → Option Note → Bool
note_fits_lem n None = true
note_fits_lem n (Some x) = nat_le x.place n

-- places within the text and labels of the grammar
abbrev pub places_fit_lem : ℕ → ℕ → Reading → Bool
places_fit_lem n L v =
    outcome_fits n L v.outcome && (note_fits_lem n v.note && ((nat_le v.recoveries.place n && nat_le v.recoveries.label L) && nat_le v.reach (n + 1)))

abbrev pub is_nothing_lem : ℕ → Outcome → Bool
is_nothing_lem i (Match j) = j == i
is_nothing_lem i (Failure l p) = false

-- what a row found comes to, where h expressions are open
pub data Found (G : Setting) (h k i : ℕ) (m : Mode) (x : Row) : Result Reading Refusal → Type 0 where
  unfit : (Fits G k i m (told_from x i) → ⊥) → Found G h k i m x (Err Unfit)
  too_deep : Fits G k i m (told_from x i) → G.frames < h + x.depth → Found G h k i m x (Err TooDeep)
  stands : Fits G k i m (told_from x i) → h + x.depth ≤ G.frames → Found G h k i m x (Ok (told_from x i))
