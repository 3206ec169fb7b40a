-- True rows, and what a reading over true rows comes to: what the rules alone come to, with the frames that are left.
use Rattle.std.specs.Prelude.{◌≡◌, ℕ, ◌+◌, ◌-◌, ◌<◌, ◌≤◌, Bool, ◌↔◌, List, Some, Ok, Err}
use Rattle.grammar.specs.declared.expr.Mode.{Mode}
use Rattle.grammar.specs.declared.expr.Mode.TheVariants.{On}
use Rattle.grammar.specs.declared.expr.Expr.{Expr}
use Rattle.grammar.specs.Words.{Peg, meaning}
use Rattle.grammar.specs.Questions.{Accepted}
use Rattle.grammar.specs.Form.{Whole}
use Rattle.text.specs.Meaning.{accepted}
use Rattle.peg.specs.declared.results.Reading.{Reading}
use Rattle.peg.specs.declared.results.RulePlace.{RulePlace}
use Rattle.peg.specs.Results.{Given, told}
use Rattle.peg.specs.Rules.{Text, Gives, RuleGives, Parses}
use Rattle.peg.specs.Halting.{Halts, RuleHalts}
use Rattle.peg.specs.Totality.{Ends}
use Rattle.peg.specs.Fitting.{Labelled, Marked}
use Rattle.memo.specs.declared.row.Row.{Row}
use Rattle.memo.specs.Tables.{Table, Empty}
use Rattle.memo.specs.Rows.{told_from}
use Rattle.reading.specs.declared.refusal.Refusal.TheVariants.{Uncovered, Unfit, TooDeep}
use Rattle.reading.specs.declared.reply.Answer.{Answer}
use Rattle.reading.specs.declared.reply.Reply.{Reply}
use Rattle.reading.specs.Reads.{Setting, Store, Res, Asked, expression, rule, Reads, setting}
use Rattle.reading.specs.Replies.{answer_of, Covers, Replies}

-- the row x of rule k tells, from place i, what the rule gives there
abbrev pub TrueRow : Peg → Text → ℕ → ℕ → Mode → Row → Type 0
TrueRow g t k i m x = (v : Given) × RuleGives g t k i m v × (told_from x i ≡ told v)

-- every row of a rule of the grammar, at a place of a text of n elements, is true
abbrev pub TrueRows : Peg → Text → ℕ → Table → Type 0
TrueRows g t n T = (k i : ℕ) (m : Mode) (x : Row) → k < g.R → i ≤ n → T k i m ≡ Some x → TrueRow g t k i m x

-- the rows held are true in a setting
abbrev pub AllTrue : Setting → Table → Type 0
AllTrue G T = TrueRows G.grammar G.text G.size T

-- a setting whose grammar names what exists, throws its own labels and has 32 marks, and whose text ends at its size
pub record Proper (G : Setting) : Type 0 where
  pub whole : Whole G.grammar
  pub labelled : Labelled G.grammar
  pub marked : Marked G.grammar
  pub ends : Ends G.text G.size

-- what is asked exists
abbrev pub KnownAsked : Setting → Asked → Type 0
KnownAsked G (expression e) = e < G.grammar.N
KnownAsked G (rule k) = k < G.grammar.R

-- by the rules alone, with k frames, an expression comes to r, when the rule-places zs are completed
pub data Comes (g : Peg) (t : Text) (k : ℕ) (x : Expr) (i : ℕ) (m : Mode) : Res → List RulePlace → Type 0 where
  gives : {v : Given} → Gives g t x i m v → v.depth ≤ k → Comes g t k x i m (Ok (told v)) v.completed
  halts : {zs : List RulePlace} → Halts g t k x i m zs → Comes g t k x i m (Err TooDeep) zs

-- the same of a rule
pub data RuleComes (g : Peg) (t : Text) (k r i : ℕ) (m : Mode) : Res → List RulePlace → Type 0 where
  rule_gives : {v : Given} → RuleGives g t r i m v → v.depth ≤ k → RuleComes g t k r i m (Ok (told v)) v.completed
  rule_halts : {zs : List RulePlace} → RuleHalts g t k r i m zs → RuleComes g t k r i m (Err TooDeep) zs

-- the same of what is asked, where h expressions are open
abbrev pub ComesTo : Setting → ℕ → Asked → ℕ → Mode → Res → List RulePlace → Type 0
ComesTo G h (expression e) i m r zs = Comes G.grammar G.text (G.frames - h) (G.grammar.expr e) i m r zs
ComesTo G h (rule k) i m r zs = RuleComes G.grammar G.text (G.frames - h) k i m r zs

-- what is asked gives v
abbrev pub AskedGives : Setting → Asked → ℕ → Mode → Given → Type 0
AskedGives G (expression e) i m v = Gives G.grammar G.text (G.grammar.expr e) i m v
AskedGives G (rule k) i m v = RuleGives G.grammar G.text k i m v

-- a reading over true rows came to r and left the rows U
pub record Stands (G : Setting) (h : ℕ) (a : Asked) (i : ℕ) (m : Mode) (r : Res) (U : Table) : Type 0 where
  -- the rules alone come to the same
  pub comes : (zs : List RulePlace) × ComesTo G h a i m r zs
  -- it is what is derived where that fits the frames, and too deep where that does not
  pub answers : (v : Given) → AskedGives G a i m v → h + v.depth ≤ G.frames → r ≡ Ok (told v)
  pub too_deep : (v : Given) → AskedGives G a i m v → G.frames < h + v.depth → r ≡ Err TooDeep
  pub answered : (w : Reading) → r ≡ Ok w → (v : Given) × AskedGives G a i m v × (h + v.depth ≤ G.frames) × (w ≡ told v)
  -- no row is unfit
  pub never_unfit : r ≡ Err Unfit → ⊥
  -- and all rows are true afterwards, after a refusal too
  pub rows : AllTrue G U

-- a whole reading over true rows replied q and left the rows U
pub record ReplyStands (G : Setting) (capacity : ℕ) (q : Reply) (U : Table) : Type 0 where
  -- 8 exactly if the memory does not cover
  pub uncovered : q.result ≡ Err Uncovered ↔ (Covers G capacity → ⊥)
  -- 9 never
  pub never_unfit : q.result ≡ Err Unfit → ⊥
  -- else the derived answer, or 10 exactly if the derivation is deeper than the frames
  pub answers : Covers G capacity → (v : Given) → Parses G.grammar G.text v → v.depth ≤ G.frames → q.result ≡ answer_of (Ok (told v))
  pub too_deep : Covers G capacity → (v : Given) → Parses G.grammar G.text v → (q.result ≡ Err TooDeep) ↔ (G.frames < v.depth)
  -- in any case what the rules alone come to
  pub comes : Covers G capacity → (s : Res) × (zs : List RulePlace) × ComesTo G 0 (rule 0) 0 On s zs × (q.result ≡ answer_of s)
  pub answered : (x : Answer) → q.result ≡ Ok x → (v : Given) × Parses G.grammar G.text v × (v.depth ≤ G.frames) × (Ok x ≡ answer_of (Ok (told v)))
  pub rows : AllTrue G U

-- over true rows a reading stands for the rules
pub record TrueReading : Type 0 where
  pub reads : (G : Setting) → Proper G → (h i : ℕ) (T U : Store) (a : Asked) (m : Mode) (r : Res)
      → KnownAsked G a → i ≤ G.size → AllTrue G T.rows → Reads G h T a i m r U → Stands G h a i m r U.rows
  pub replies : (G : Setting) → Proper G → 0 < G.grammar.R → (capacity : ℕ) (T U : Table) (q : Reply)
      → AllTrue G T → Replies G capacity T q U → ReplyStands G capacity q U

-- an accepted row and the elements of a text make such a setting
abbrev pub MadeProper : Type 0 → Type 0
MadeProper E = (ws : List ℕ) → Accepted ws → (fits : ℕ → ℕ → E → Bool) (xs : List E) (frames : ℕ) (keeps : Bool) (P Q : ℕ)
    → Proper (setting (meaning ws) fits xs frames keeps P Q)

-- over an emptied memory that covers text and rules, with frames enough, the answer is the derived one
abbrev pub Emptied : Type 0 → Type 0
Emptied E = (ws : List ℕ) → Accepted ws
    → (fits : ℕ → ℕ → E → Bool) (xs : List E) (frames : ℕ) (keeps : Bool) (P Q capacity : ℕ) (T U : Table) (q : Reply)
    → Empty T → Covers (setting (meaning ws) fits xs frames keeps P Q) capacity → Replies (setting (meaning ws) fits xs frames keeps P Q) capacity T q U
    → (v : Given) → Parses (meaning ws) (accepted fits xs) v → v.depth ≤ frames → q.result ≡ answer_of (Ok (told v))
