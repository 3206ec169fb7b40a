-- How many rows a reading over true rows puts, and which rows are held afterwards.
use Rattle.std.specs.Prelude.{◌≡◌, ℕ, ◌+◌, ◌<◌, ◌≤◌, min, true, ◌⊎◌, ◌↔◌, List, length}
use Rattle.grammar.specs.declared.expr.Mode.{Mode}
use Rattle.grammar.specs.declared.expr.Mode.TheVariants.{On}
use Rattle.peg.specs.Members.{In, Distinct}
use Rattle.peg.specs.declared.results.RulePlace.{RulePlace}
use Rattle.peg.specs.Counting.{learned, fresh}
use Rattle.peg.specs.Known.{Known}
use Rattle.memo.specs.Tables.{Table}
use Rattle.reading.specs.declared.reply.Reply.{Reply}
use Rattle.reading.specs.Reads.{Setting, Store, Res, Asked, rule, Reads, most_fresh}
use Rattle.reading.specs.Replies.{Covers, Replies}
use Rattle.reading.specs.Putting.{Held, put}
use Rattle.reading.specs.Truth.{AllTrue, Proper, KnownAsked, ComesTo}

-- every rule-place held is in the list
abbrev pub HeldIn : Table → List RulePlace → Type 0
HeldIn T ks = (z : RulePlace) → Held T z → In z ks

-- just the rule-places of the list are held
abbrev pub HeldAre : Table → List RulePlace → Type 0
HeldAre T ks = (z : RulePlace) → Held T z ↔ In z ks

-- the memory forgets nothing, and has room for every rule at every place of the text
pub record KeepsAll (G : Setting) : Type 0 where
  pub keeps : G.keeps ≡ true
  pub places : G.size < G.P
  pub rules : G.grammar.R ≤ G.Q

-- ps are just the rule-places of zs that are not in ks, each once
pub record JustFresh (ks zs ps : List RulePlace) : Type 0 where
  pub each_once : Distinct ps
  pub are : (z : RulePlace) → In z ps ↔ (In z zs × (In z ks → ⊥))
  pub number : length ps ≡ fresh ks zs

-- the rows ps were put, from T to U, while the rules alone complete zs
pub record Counted (G : Setting) (T U : Table) (zs ps : List RulePlace) : Type 0 where
  -- a row held afterwards was held before, or its rule-place was completed
  pub held : (z : RulePlace) → Held U z → Held T z ⊎ In z zs
  -- the rows put are no fewer than the completed rule-places that were not known
  pub at_least : (ks : List RulePlace) → Known G.grammar G.text ks → HeldIn T ks → fresh ks zs ≤ length ps
  -- over a memory that keeps all, where the known ones are just those held: exactly these, each once, and known and held are the same again
  pub exactly : KeepsAll G → (ks : List RulePlace) → Known G.grammar G.text ks → HeldAre T ks → JustFresh ks zs ps × HeldAre U (learned ks zs)

-- what a whole reading counts, where by the rules alone it completes zs
pub record ReplyCounted (G : Setting) (T U : Table) (zs : List RulePlace) (q : Reply) : Type 0 where
  pub held : (z : RulePlace) → Held U z → Held T z ⊎ In z zs
  pub at_least : (ks : List RulePlace) → Known G.grammar G.text ks → HeldIn T ks → min (fresh ks zs) most_fresh ≤ q.fresh
  pub exactly : KeepsAll G → (ks : List RulePlace) → Known G.grammar G.text ks → HeldAre T ks
      → (q.fresh ≡ min (fresh ks zs) most_fresh) × HeldAre U (learned ks zs)

pub record Counts : Type 0 where
  -- the count is of the rows put, and stops
  pub counts : (G : Setting) (h i : ℕ) (T U : Store) (a : Asked) (m : Mode) (r : Res) (d : Reads G h T a i m r U) → T.fresh ≤ most_fresh
      → U.fresh ≡ min (T.fresh + length (put d)) most_fresh
  -- over true rows
  pub reads : (G : Setting) → Proper G → (h i : ℕ) (T U : Store) (a : Asked) (m : Mode) (r : Res)
      → KnownAsked G a → i ≤ G.size → AllTrue G T.rows → (d : Reads G h T a i m r U)
      → (s : Res) (zs : List RulePlace) → ComesTo G h a i m s zs → Counted G T.rows U.rows zs (put d)
  pub replies : (G : Setting) → Proper G → 0 < G.grammar.R → (capacity : ℕ) (T U : Table) (q : Reply)
      → AllTrue G T → Covers G capacity → Replies G capacity T q U
      → (s : Res) (zs : List RulePlace) → ComesTo G 0 (rule 0) 0 On s zs → ReplyCounted G T U zs q
