-- A reading has at most one answer, count and table, once it is given which rows its puts drop.
use Rattle.std.specs.Prelude.{◌≡◌, ℕ, true, List, []}
use Rattle.grammar.specs.declared.expr.Mode.{Mode}
use Rattle.memo.specs.Tables.{Table}
use Rattle.reading.specs.declared.reply.Reply.{Reply}
use Rattle.reading.specs.Reads.{Setting, Store, Res, Asked, Reads}
use Rattle.reading.specs.Replies.{Replies, uncovered, covered}
use Rattle.reading.specs.Putting.{Gone, Drops}

-- the puts of a whole reading drop the rows given, one entry of the list a put
abbrev pub ReplyDrops : {G : Setting} {capacity : ℕ} {T U : Table} {q : Reply} → Replies G capacity T q U → List Gone → Type 0
ReplyDrops (uncovered u) gs = Unit {0}
ReplyDrops (covered c d) gs = (gs' : List Gone) × Drops d gs gs'

-- no two answers, counts or tables
pub record AtMostOne : Type 0 where
  -- over any memory, once the rows are given that each put drops
  pub given_drops : (G : Setting) (h i : ℕ) (T U W : Store) (a : Asked) (m : Mode) (r s : Res) (gs hs ks : List Gone)
      → (d : Reads G h T a i m r U) (e : Reads G h T a i m s W) → Drops d gs hs → Drops e gs ks → (r ≡ s) × (U ≡ W)
  -- every reading drops some rows that can be given
  pub some_drops : (G : Setting) (h i : ℕ) (T U : Store) (a : Asked) (m : Mode) (r : Res) → (d : Reads G h T a i m r U) → (gs : List Gone) × Drops d gs []
  -- over a memory that forgets nothing
  pub keeping : (G : Setting) → G.keeps ≡ true → (h i : ℕ) (T U W : Store) (a : Asked) (m : Mode) (r s : Res)
      → Reads G h T a i m r U → Reads G h T a i m s W → (r ≡ s) × (U ≡ W)
  -- the same of whole readings
  pub reply_given_drops : (G : Setting) (capacity : ℕ) (T U W : Table) (p q : Reply) (gs : List Gone)
      → (d : Replies G capacity T p U) (e : Replies G capacity T q W) → ReplyDrops d gs → ReplyDrops e gs → (p ≡ q) × (U ≡ W)
  pub reply_keeping : (G : Setting) → G.keeps ≡ true → (capacity : ℕ) (T U W : Table) (p q : Reply)
      → Replies G capacity T p U → Replies G capacity T q W → (p ≡ q) × (U ≡ W)
  -- tables that hold the same rows are the same
  pub same_rows : (T U : Table) → ((k i : ℕ) (m : Mode) → T k i m ≡ U k i m) → T ≡ U
