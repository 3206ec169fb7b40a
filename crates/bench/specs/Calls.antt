-- What the calls promise, in terms of runs.
use Rattle.std.specs.Prelude.{◌≡◌, ℕ, ◌+◌, ◌-◌, ◌<◌, ◌≤◌, Bool, List, [], ◌∷◌, length, Ok, Err, Result}
use Rattle.text.specs.declared.EditRefusal.{EditRefusal}
use Rattle.grammar.specs.declared.expr.Mode.TheVariants.{On}
use Rattle.grammar.specs.Words.{meaning}
use Rattle.text.specs.Meaning.{accepted}
use Rattle.text.specs.Refusals.{edit_number, Iff}
use Rattle.peg.specs.declared.results.RulePlace.{RulePlace}
use Rattle.peg.specs.Counting.{fresh, learned, most_places}
use Rattle.peg.specs.Settling.{Settles}
use Rattle.memo.specs.Tables.{Table}
use Rattle.reading.specs.declared.reply.Reply.{Reply}
use Rattle.reading.specs.Reads.{Res}
use Rattle.reading.specs.Truth.{RuleComes}
use Rattle.reading.specs.Runs.{Bounds, Covering}
use Rattle.bench.specs.declared.state.Settled.{Settled}
use Rattle.bench.specs.declared.state.Slip.{Slip}
use Rattle.bench.specs.Runs.{State, settled, Change, Run}
use Rattle.bench.specs.Law.{Lawful}
use Rattle.bench.specs.Slips.{out}

-- what stays the same on a bench
abbrev pub bounds : Bool → ℕ → ℕ → ℕ → Bounds
bounds keeps P Q capacity = record { keeps = keeps; P = P; Q = Q; capacity = capacity }

-- some rule-places are known, and a run with these changes ends here
abbrev pub Runs : {E : Type 0} → (ℕ → ℕ → E → Bool) → Bounds → List ℕ → List E → List (Change E) → List E → Table → State → Type 0
Runs fits b ws first cs xs T s = (ks : List RulePlace) × Run fits b ws first cs xs T ks s

-- a run that ended before a call goes on with it
abbrev pub GoesOn : {E : Type 0} → (ℕ → ℕ → E → Bool) → Bounds → Bounds → List ℕ → List E → List E → Table → Table → State → State → Type 0
GoesOn {E} fits b b' ws xs ys T U s s' = (first : List E) (cs : List (Change E)) → Runs fits b ws first cs xs T s → Runs fits b' ws first cs ys U s'

-- the answer to a change by its number; 0 is yes
abbrev pub change_number : Result Slip (Settled × EditRefusal) → ℕ
change_number (Ok s) = 0
change_number (Err e) = edit_number (Err e.1)

-- what a change of a text of n elements into m others is answered: 11 exactly if question 11 is answered no, 12 exactly if 11 is answered yes and 12 no
pub record Numbered (r : Result Slip (Settled × EditRefusal)) (n capacity p k m : ℕ) : Type 0 where
  pub eleven : Iff (change_number r ≡ 11) (n < p + k)
  pub twelve : Iff (change_number r ≡ 12) ((p + k ≤ n) × (capacity < n - k + m))

-- after every run that ended settled, the law holds of a parse's reply
abbrev pub Obeys : {E : Type 0} → (ℕ → ℕ → E → Bool) → Bounds → List ℕ → List E → Table → ℕ → Reply → Table → Type 0
Obeys {E} fits b ws xs T frames q U = (first : List E) (cs : List (Change E)) (ks : List RulePlace) → Run fits b ws first cs xs T ks settled → Lawful fits b ws first cs xs ks frames q U

-- a run that ended settled goes on with a change: accepted, with the change made and its slip out; refused, as it was
abbrev pub ChangesOn : {E : Type 0} → Result Slip (Settled × EditRefusal) → (ℕ → ℕ → E → Bool) → Bounds → Bounds → List ℕ → List E → List E → Table → ℕ → ℕ → List E → Type 0
ChangesOn {E} (Ok s) fits b b' ws xs zs T p k ys = (first : List E) (cs : List (Change E)) → Runs fits b ws first cs xs T settled
    → Runs fits b' ws first (record { place = p; removed = k; inserted = ys } ∷ cs) zs T (out s)
ChangesOn (Err e) fits b b' ws xs zs T p k ys = GoesOn fits b b' ws xs zs T T settled settled

-- after every run over a memory that forgets nothing, a parse counts just the rule-places completed and not known before, at most 2 × R × (n + 1)
abbrev pub CountsExactly : {E : Type 0} → (ℕ → ℕ → E → Bool) → Bounds → List ℕ → List E → Table → ℕ → Reply → Type 0
CountsExactly {E} fits b ws xs T frames q = (first : List E) (cs : List (Change E)) (ks : List RulePlace) → Run fits b ws first cs xs T ks settled
    → Covering (meaning ws) b → (s : Res) (zs : List RulePlace) → RuleComes (meaning ws) (accepted fits xs) frames 0 0 On s zs
    → (q.fresh ≡ fresh ks zs) × (q.fresh ≤ most_places (meaning ws).R (length xs))

-- runs with these changes end here: there are rule-places known as After says, and with each such list known there is a run
abbrev pub RunsKnowing : {E : Type 0} → (ℕ → ℕ → E → Bool) → Bounds → List ℕ → List E → List (Change E) → List E → Table → State → (List RulePlace → Type 0) → Type 0
RunsKnowing fits b ws first cs xs T s After = ((ls : List RulePlace) × After ls) × ((ls : List RulePlace) → After ls → Run fits b ws first cs xs T ls s)

-- every run that ended before a call goes on with it; After relates the rule-places known before it to those known after it
abbrev pub GoesOnKnowing : {E : Type 0} → (ℕ → ℕ → E → Bool) → Bounds → Bounds → List ℕ → List E → List E → Table → Table → State → State → (List RulePlace → List RulePlace → Type 0) → Type 0
GoesOnKnowing {E} fits b b' ws xs ys T U s s' After = (first : List E) (cs : List (Change E)) (ks : List RulePlace) → Run fits b ws first cs xs T ks s → RunsKnowing fits b' ws first cs ys U s' (After ks)

-- all that was known ends
abbrev pub EndsKnown : List RulePlace → List RulePlace → Type 0
EndsKnown ks ls = ls ≡ []

-- just what was known stays known
abbrev pub StaysKnown : List RulePlace → List RulePlace → Type 0
StaysKnown ks ls = ls ≡ ks

-- what a parse with so many frames makes known
pub data Learns {E : Type 0} (fits : ℕ → ℕ → E → Bool) (b : Bounds) (ws : List ℕ) (xs : List E) (frames : ℕ) (ks : List RulePlace) : List RulePlace → Type 0 where
  -- past question 8: what plain evaluation within its frames completes
  learns : {s : Res} {zs : List RulePlace} → Covering (meaning ws) b → RuleComes (meaning ws) (accepted fits xs) frames 0 0 On s zs → Learns fits b ws xs frames ks (learned ks zs)
  -- where question 8 refuses: nothing
  learns_nothing : (Covering (meaning ws) b → ⊥) → Learns fits b ws xs frames ks ks

-- every run that ended settled goes on with a parse
abbrev pub ParsesOn : {E : Type 0} → (ℕ → ℕ → E → Bool) → Bounds → Bounds → List ℕ → List E → Table → Table → ℕ → Type 0
ParsesOn fits b b' ws xs T U frames = GoesOnKnowing fits b b' ws xs xs T U settled settled (Learns fits b ws xs frames)

-- every run that ended settled goes on with a change: accepted, with the change made, its slip out, and the known rule-places kept or moved; refused, as it was
abbrev pub ChangesOnKnowing : {E : Type 0} → Result Slip (Settled × EditRefusal) → (ℕ → ℕ → E → Bool) → Bounds → Bounds → List ℕ → List E → List E → Table → ℕ → ℕ → List E → Type 0
ChangesOnKnowing {E} (Ok s) fits b b' ws xs zs T p k ys = (first : List E) (cs : List (Change E)) (ks : List RulePlace) → Run fits b ws first cs xs T ks settled
    → RunsKnowing fits b' ws first (record { place = p; removed = k; inserted = ys } ∷ cs) zs T (out s) (Settles (meaning ws) (accepted fits xs) p k (length ys) ks)
ChangesOnKnowing (Err e) fits b b' ws xs zs T p k ys = GoesOnKnowing fits b b' ws xs zs T T settled settled StaysKnown
