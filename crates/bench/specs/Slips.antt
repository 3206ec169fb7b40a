-- The slip: p, k and m of an accepted change, until it is spent.
use Rattle.std.specs.Prelude.{◌≡◌, ℕ}
use Rattle.bench.specs.declared.state.Slip.{Slip}
use Rattle.bench.specs.Runs.{State, slip_out}

-- the place that marks a slip as spent: no text has it
abbrev pub spent_place : ℕ
spent_place = 65536

abbrev pub Spent : Slip → Type 0
Spent s = s.p ≡ spent_place

-- the state of a run in which the slip is out
abbrev pub out : Slip → State
out s = slip_out s.p s.k s.m
