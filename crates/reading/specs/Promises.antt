-- What every reading promises besides being one: each number exactly when, no other reply, and what the rules derive over true rows.
use Rattle.std.specs.Prelude.{◌≡◌, ℕ, ◌<◌, ◌≤◌, true, ◌↔◌, List, Ok, Err}
use Rattle.grammar.specs.declared.expr.Mode.TheVariants.{On}
use Rattle.peg.specs.declared.results.RulePlace.{RulePlace}
use Rattle.peg.specs.Results.{Given, told}
use Rattle.peg.specs.Rules.{Parses}
use Rattle.memo.specs.Tables.{Table, Empty}
use Rattle.reading.specs.declared.refusal.Refusal.{Refusal}
use Rattle.reading.specs.declared.refusal.Refusal.TheVariants.{Uncovered, Unfit, TooDeep}
use Rattle.reading.specs.declared.reply.Reply.{Reply}
use Rattle.reading.specs.Reads.{Setting, Store, store, Res, rule, Reads}
use Rattle.reading.specs.Replies.{answer_of, RefusedBy, Covers, Replies}
use Rattle.reading.specs.Putting.{Gone}
use Rattle.reading.specs.Once.{ReplyDrops}
use Rattle.reading.specs.Truth.{AllTrue, ComesTo, ReplyStands}
use Rattle.reading.specs.Counts.{ReplyCounted}

-- reading rule 0 at place 0 over the rows T comes to the refusal z
abbrev pub Refused : Setting → Table → Refusal → Type 0
Refused G T z = (W : Store) × Reads G 0 (store T 0) (rule 0) 0 On (Err z) W

-- Which rows the puts of a memory that forgets drop is undecided. Known is that a list says it, one entry a put: so this
-- reading drops, and no other reply and no other rows left are those of a reading that drops the same.
abbrev pub DroppedUndecided : Setting → ℕ → Table → Reply → Table → Type 0
DroppedUndecided G capacity T q U = (gs : List Gone) × ((d : Replies G capacity T q U) × ReplyDrops d gs) × ((p : Reply) (W : Table) (e : Replies G capacity T p W) → ReplyDrops e gs → (q ≡ p) × (U ≡ W))

-- a reading over the rows T that replied q and left the rows U
pub record Promised (G : Setting) (capacity : ℕ) (T : Table) (q : Reply) (U : Table) : Type 0 where
  -- 8 exactly if the memory does not cover text and rules
  pub eight : (q.result ≡ Err Uncovered) ↔ (Covers G capacity → ⊥)
  -- over a memory that forgets nothing, 9 exactly if it covers and a row found does not fit, 10 exactly if it covers and the frames do not suffice, whichever comes first
  pub nine : G.keeps ≡ true → (q.result ≡ Err Unfit) ↔ (Covers G capacity × Refused G T Unfit)
  pub ten : G.keeps ≡ true → (q.result ≡ Err TooDeep) ↔ (Covers G capacity × Refused G T TooDeep)
  -- and no other reply, and no other rows left, are those of a reading
  pub only : G.keeps ≡ true → (p : Reply) (W : Table) → Replies G capacity T p W → (q ≡ p) × (U ≡ W)
  -- over true rows: what the rules derive, or 10 exactly if that is deeper than the frames; never 9; and true rows afterwards
  pub over_true_rows : AllTrue G T → ReplyStands G capacity q U
  -- and the count of rows put, against the rule-places that the rules complete
  pub counted : AllTrue G T → Covers G capacity → (s : Res) (zs : List RulePlace) → ComesTo G 0 (rule 0) 0 On s zs → ReplyCounted G T U zs q
  -- over an emptied memory that covers, with frames enough: what the rules derive
  pub emptied : Empty T → Covers G capacity → (v : Given) → Parses G.grammar G.text v → v.depth ≤ G.frames → q.result ≡ answer_of (Ok (told v))

-- the refusals of such a reading by their numbers, and what its puts drop
pub record PromisedByNumber (G : Setting) (capacity : ℕ) (T : Table) (q : Reply) (U : Table) : Type 0 where
  -- 8 exactly if the memory does not cover text and rules
  pub eight : RefusedBy 8 q ↔ (Covers G capacity → ⊥)
  -- over a memory that forgets nothing, 9 exactly if it covers and a row found does not fit, 10 exactly if it covers and the frames do not suffice, whichever comes first
  pub nine : G.keeps ≡ true → RefusedBy 9 q ↔ (Covers G capacity × Refused G T Unfit)
  pub ten : G.keeps ≡ true → RefusedBy 10 q ↔ (Covers G capacity × Refused G T TooDeep)
  -- over true rows, 9 never, and 10 exactly if it covers and the derivation is deeper than the frames
  pub never_nine : AllTrue G T → RefusedBy 9 q → ⊥
  pub ten_if_deeper : AllTrue G T → Covers G capacity → (v : Given) → Parses G.grammar G.text v → RefusedBy 10 q ↔ (G.frames < v.depth)
  -- over any memory, what is dropped, and one reply once that is given
  pub given : DroppedUndecided G capacity T q U
