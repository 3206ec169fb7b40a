-- Summaries of recoveries: how they add up, and move, without the lists.
use Rattle.std.specs.Prelude.{◌≡◌, ℕ, ◌+◌, min, cond, List, ◌++◌, map, ◌==◌}
use Rattle.peg.specs.declared.results.Recoveries.{Recoveries}
use Rattle.peg.specs.Results.{Recovery, summary, most_recoveries}
use Rattle.peg.specs.Moves.{moved_recovery}

-- the counts' sum, which stops, with label and place of the first that has one
abbrev pub added : Recoveries → Recoveries → Recoveries
added a b = cond (a.count == 0) b (record { count = min (a.count + b.count) most_recoveries; label = a.label; place = a.place })

-- the first place moved by f, if there is one
abbrev pub moved_recoveries : (ℕ → ℕ) → Recoveries → Recoveries
moved_recoveries f a = cond (a.count == 0) a (record { count = a.count; label = a.label; place = f a.place })

-- a reader may add and move summaries in place of lists
pub record Summaries : Type 0 where
  pub add : (xs ys : List Recovery) → summary (xs ++ ys) ≡ added (summary xs) (summary ys)
  pub move : (f : ℕ → ℕ) (xs : List Recovery) → summary (map (moved_recovery f) xs) ≡ moved_recoveries f (summary xs)
