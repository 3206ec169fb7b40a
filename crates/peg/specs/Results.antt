-- What an evaluation gives, and what a reader tells of it.
use Rattle.std.specs.Prelude.{ℕ, min, List, [], ◌∷◌, length, Option}
use Rattle.peg.specs.declared.results.Outcome.{Outcome}
use Rattle.peg.specs.declared.results.Note.{Note}
use Rattle.peg.specs.declared.results.Recoveries.{Recoveries}
use Rattle.peg.specs.declared.results.Reading.{Reading}
use Rattle.peg.specs.declared.results.RulePlace.{RulePlace}

-- a throw that was recovered: its label and place, and the end of its recovery expression's match
pub record Recovery : Type 0 where
  pub label : ℕ
  pub place : ℕ
  pub end : ℕ

-- what an evaluation gives; completed are the rule-places evaluated to their end in it, in that order
pub record Given : Type 0 where
  pub outcome : Outcome
  pub note : Option Note
  pub recoveries : List Recovery
  pub depth : ℕ
  pub reach : ℕ
  pub completed : List RulePlace

-- where the count of recoveries stops
abbrev pub most_recoveries : ℕ
most_recoveries = 65535

-- the count of recoveries, with label and place of the first
abbrev pub summary : List Recovery → Recoveries
summary [] = record { count = 0; label = 0; place = 0 }
summary (r ∷ rs) = record { count = min (length (r ∷ rs)) most_recoveries; label = r.label; place = r.place }

-- what a reader tells of what was given
abbrev pub told : Given → Reading
told v = record { outcome = v.outcome; note = v.note; recoveries = summary v.recoveries; depth = v.depth; reach = v.reach }
