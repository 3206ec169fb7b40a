-- How a row is told from its place: distances become places of the text.
use Rattle.std.specs.Prelude.{ℕ, ◌+◌, cond, ◌&&◌, Some, None, Option, nat_lt}
use Rattle.peg.specs.declared.results.Outcome.{Outcome}
use Rattle.peg.specs.declared.results.Outcome.TheVariants.{Match, Failure}
use Rattle.peg.specs.declared.results.Note.{Note}
use Rattle.peg.specs.declared.results.Recoveries.{Recoveries}
use Rattle.peg.specs.declared.results.Reading.{Reading}
use Rattle.memo.specs.declared.row.Row.{Row}

-- a match with its end, or a failure with its label and place
abbrev pub outcome_from : Row → ℕ → Outcome
outcome_from x i = cond x.matched (Match (i + x.end)) (Failure x.label (i + x.end))

-- the note, where there is one
abbrev pub note_from : Row → ℕ → Option Note
note_from x i = cond x.noted (Some (record { place = i + x.note; marks = x.marks })) None

-- the recoveries of a match that has some; anything else has none: count, label and place are 0
abbrev pub recoveries_from : Row → ℕ → Recoveries
recoveries_from x i =
    cond (x.matched && nat_lt 0 x.recoveries)
    (record { count = x.recoveries; label = x.first_label; place = i + x.first })
    (record { count = 0; label = 0; place = 0 })

-- all that a row held at place i tells
abbrev pub told_from : Row → ℕ → Reading
told_from x i =
    record {
      outcome = outcome_from x i;
      note = note_from x i;
      recoveries = recoveries_from x i;
      depth = x.depth;
      reach = i + x.reach;
    }
