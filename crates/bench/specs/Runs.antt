-- Runs: what a bench goes through from its open on, one step a call, each step being what that call promises and nothing more.
use Rattle.std.specs.Prelude.{◌≡◌, ℕ, ◌+◌, ◌-◌, ◌≤◌, Bool, List, [], ◌∷◌, length}
use Rattle.grammar.specs.declared.expr.Mode.TheVariants.{On}
use Rattle.grammar.specs.Words.{meaning}
use Rattle.text.specs.Meaning.{accepted, replaced}
use Rattle.peg.specs.declared.results.RulePlace.{RulePlace}
use Rattle.peg.specs.Counting.{learned}
use Rattle.peg.specs.Settling.{Settles}
use Rattle.memo.specs.Tables.{Table, Empty, Shifts}
use Rattle.reading.specs.declared.reply.Reply.{Reply}
use Rattle.reading.specs.Reads.{Res}
use Rattle.reading.specs.Replies.{Replies}
use Rattle.reading.specs.Truth.{RuleComes}
use Rattle.reading.specs.Runs.{Bounds, parse_of, Covering}

-- a bench is settled, or the slip of a change of k elements at p into m is out
pub data State : Type 0 where
  settled : State
  slip_out : ℕ → ℕ → ℕ → State

-- an accepted change: so many elements from a place on gave way to others
pub record Change (E : Type 0) : Type 0 where
  pub place : ℕ
  pub removed : ℕ
  pub inserted : List E

-- the text with each change made in it; the last change stands first
abbrev pub made : {E : Type 0} → List E → List (Change E) → List E
made xs [] = xs
made xs (c ∷ cs) = replaced (made xs cs) c.place c.removed c.inserted

-- what a change asks of a text of n elements: questions 11 and 12
abbrev pub Changeable : ℕ → ℕ → ℕ → ℕ → ℕ → Type 0
Changeable n capacity p k m = (p + k ≤ n) × (n - k + m ≤ capacity)

-- a run by the row of words ws, from the text at open and with the changes so far, to the text as it stands, the rows held, the rule-places known, and the state
pub data Run {E : Type 0} (fits : ℕ → ℕ → E → Bool) (b : Bounds) : List ℕ → List E → List (Change E) → List E → Table → List RulePlace → State → Type 0 where
  -- open: no row is held and nothing is known; the text is within its capacity, as every text is
  opened : {ws : List ℕ} {xs : List E} {T : Table} → length xs ≤ b.capacity → b.capacity ≤ 65535 → Empty T
      → Run fits b ws xs [] xs T [] settled
  -- an accepted change: known rule-places are kept or moved by their derived reach, or end
  changed : {ws : List ℕ} {first xs ys zs : List E} {cs : List (Change E)} {T : Table} {ks ls : List RulePlace} {p k : ℕ}
      → Run fits b ws first cs xs T ks settled
      → Changeable (length xs) b.capacity p k (length ys) → zs ≡ replaced xs p k ys
      → Settles (meaning ws) (accepted fits xs) p k (length ys) ks ls
      → Run fits b ws first (record { place = p; removed = k; inserted = ys } ∷ cs) zs T ls (slip_out p k (length ys))
  -- a refused change ends nothing
  change_refused : {ws : List ℕ} {first xs : List E} {cs : List (Change E)} {T : Table} {ks : List RulePlace} (p k m : ℕ)
      → Run fits b ws first cs xs T ks settled → (Changeable (length xs) b.capacity p k m → ⊥)
      → Run fits b ws first cs xs T ks settled
  -- settle spends the slip
  shifted : {ws : List ℕ} {first xs : List E} {cs : List (Change E)} {T U : Table} {ks : List RulePlace} {p k m : ℕ}
      → Run fits b ws first cs xs T ks (slip_out p k m) → Shifts b.keeps b.P p k m T U
      → Run fits b ws first cs xs U ks settled
  -- a parse past question 8, answered or refused, makes known what plain evaluation completes within its frames
  parsed : {ws : List ℕ} {first xs : List E} {cs : List (Change E)} {T U : Table} {ks zs : List RulePlace} {frames : ℕ} {q : Reply} {s : Res}
      → Run fits b ws first cs xs T ks settled → Covering (meaning ws) b
      → Replies (parse_of (meaning ws) fits xs frames b) b.capacity T q U
      → RuleComes (meaning ws) (accepted fits xs) frames 0 0 On s zs
      → Run fits b ws first cs xs U (learned ks zs) settled
  -- a parse that question 8 refuses makes nothing known
  parse_uncovered : {ws : List ℕ} {first xs : List E} {cs : List (Change E)} {T U : Table} {ks : List RulePlace} {frames : ℕ} {q : Reply}
      → Run fits b ws first cs xs T ks settled → (Covering (meaning ws) b → ⊥)
      → Replies (parse_of (meaning ws) fits xs frames b) b.capacity T q U
      → Run fits b ws first cs xs U ks settled
  -- clear: no row is held and nothing is known
  cleared : {ws : List ℕ} {first xs : List E} {cs : List (Change E)} {T U : Table} {ks : List RulePlace}
      → Run fits b ws first cs xs T ks settled → Empty U
      → Run fits b ws first cs xs U [] settled
