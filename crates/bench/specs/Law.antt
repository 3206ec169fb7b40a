-- The law over runs: each answer is what the rules derive for the text as it now stands.
use Rattle.std.specs.Prelude.{◌≡◌, ℕ, ◌≤◌, Bool, true, List, length, Err, ◌≢◌}
use Rattle.grammar.specs.declared.expr.Mode.TheVariants.{On}
use Rattle.grammar.specs.Words.{meaning}
use Rattle.grammar.specs.Questions.{Accepted}
use Rattle.text.specs.Meaning.{accepted}
use Rattle.peg.specs.declared.results.RulePlace.{RulePlace}
use Rattle.peg.specs.Rules.{Parses}
use Rattle.peg.specs.Totality.{deepest, OneWithin}
use Rattle.peg.specs.Counting.{fresh, most_places}
use Rattle.memo.specs.Tables.{Table, Empty}
use Rattle.reading.specs.declared.refusal.Refusal.TheVariants.{TooDeep}
use Rattle.reading.specs.declared.reply.Reply.{Reply}
use Rattle.reading.specs.Reads.{Res}
use Rattle.reading.specs.Replies.{Replies}
use Rattle.reading.specs.Truth.{RuleComes, ReplyStands}
use Rattle.reading.specs.Runs.{Bounds, parse_of, Covering}
use Rattle.bench.specs.Runs.{settled, Change, made, Run}

-- after a run, a parse with so many frames replied q and left the rows U
pub record Lawful {E : Type 0} (fits : ℕ → ℕ → E → Bool) (b : Bounds) (ws : List ℕ) (first : List E) (cs : List (Change E)) (xs : List E) (ks : List RulePlace) (frames : ℕ) (q : Reply) (U : Table) : Type 0 where
  -- the rules derive exactly one match or failure for the text as it stands, with its note and recoveries, at most 2 × N × (n + 1) deep
  pub one : OneWithin (Parses (meaning ws) (accepted fits xs)) (deepest (meaning ws) (length xs))
  -- and with that many frames this is no parse with number 10
  pub deep_enough : deepest (meaning ws) (length xs) ≤ frames → q.result ≢ Err TooDeep
  -- the text is that at open with each accepted change made in it
  pub text : xs ≡ made first cs
  -- 8 and 10 exactly when, 9 never, and else what the rules derive
  pub answer : ReplyStands (parse_of (meaning ws) fits xs frames b) b.capacity q U
  -- the answer of every reading with as many frames from the emptied memory
  pub as_emptied : (T U' : Table) (p : Reply) → Empty T → Replies (parse_of (meaning ws) fits xs frames b) b.capacity T p U' → q.result ≡ p.result
  -- there is a list of the rule-places that plain evaluation within the frames completes
  pub completes : (s : Res) × (zs : List RulePlace) × RuleComes (meaning ws) (accepted fits xs) frames 0 0 On s zs
  -- the count is not below the number of rule-places completed and not known before
  pub at_least : Covering (meaning ws) b → (s : Res) (zs : List RulePlace) → RuleComes (meaning ws) (accepted fits xs) frames 0 0 On s zs → fresh ks zs ≤ q.fresh
  -- over a memory that forgets nothing it is that number, and at most 2 × R × (n + 1)
  pub exactly : Covering (meaning ws) b → b.keeps ≡ true → (s : Res) (zs : List RulePlace) → RuleComes (meaning ws) (accepted fits xs) frames 0 0 On s zs
      → (q.fresh ≡ fresh ks zs) × (q.fresh ≤ most_places (meaning ws).R (length xs))
  -- and 0 with number 8
  pub uncounted : (Covering (meaning ws) b → ⊥) → q.fresh ≡ 0

-- so it is after every run by an accepted row
abbrev pub Law : Type 0 → Type 0
Law E = (fits : ℕ → ℕ → E → Bool) (b : Bounds) (ws : List ℕ) → Accepted ws
    → (first : List E) (cs : List (Change E)) (xs : List E) (T : Table) (ks : List RulePlace) → Run fits b ws first cs xs T ks settled
    → (frames : ℕ) (q : Reply) (U : Table) → Replies (parse_of (meaning ws) fits xs frames b) b.capacity T q U
    → Lawful fits b ws first cs xs ks frames q U
