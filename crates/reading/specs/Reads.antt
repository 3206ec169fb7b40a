-- Reading with a memory: the rules, with each rule-place looked up first, and its row put when it was evaluated.
use Rattle.std.specs.Prelude.{◌≡◌, ℕ, suc, ◌+◌, ◌-◌, ◌<◌, ◌≤◌, min, Bool, true, false, List, length, Some, None, Ok, Err, Option, Result}
use Rattle.text.specs.Meaning.{accepted}
use Rattle.grammar.specs.declared.expr.Mode.{Mode}
use Rattle.grammar.specs.declared.expr.Mode.TheVariants.{On, Off}
use Rattle.grammar.specs.declared.expr.Expr.TheVariants.{Empty, Terminal, Call, Sequence, Choice, Repetition, Predicate, Throw}
use Rattle.grammar.specs.Words.{Peg}
use Rattle.grammar.specs.Form.{recovers_lem}
use Rattle.grammar.specs.Marks.{NullableRule}
use Rattle.peg.specs.declared.results.Outcome.{Outcome}
use Rattle.peg.specs.declared.results.Outcome.TheVariants.{Match, Failure}
use Rattle.peg.specs.declared.results.Note.{Note}
use Rattle.peg.specs.declared.results.Reading.{Reading}
use Rattle.peg.specs.Rules.{Text, expected, unmarked, caught}
use Rattle.peg.specs.Readings.{read_alone, read_deeper, read_sequence, read_other, read_end, read_round, read_predicate, read_recovery}
use Rattle.memo.specs.declared.row.Row.{Row}
use Rattle.memo.specs.Tables.{Table, Puts}
use Rattle.memo.specs.Rows.{told_from}
use Rattle.reading.specs.declared.refusal.Refusal.{Refusal}
use Rattle.reading.specs.declared.refusal.Refusal.TheVariants.{Unfit, TooDeep}

-- what a reading goes by: the grammar, the text and its size, how many frames are lent, and the memory's promise
pub record Setting : Type 0 where
  pub grammar : Peg
  pub text : Text
  pub size : ℕ
  pub frames : ℕ
  pub keeps : Bool
  pub P : ℕ
  pub Q : ℕ

-- what a reading changes: the rows held, and the count of rows put
pub record Store : Type 0 where
  pub rows : Table
  pub fresh : ℕ

-- where the count of rows put stops
abbrev pub most_fresh : ℕ
most_fresh = 4294967295

abbrev pub Res : Type 0
Res = Result Reading Refusal

-- what is asked: an expression by its number, or a rule
pub data Asked : Type 0 where
  expression : ℕ → Asked
  rule : ℕ → Asked

-- a refusal is handed on
abbrev pub each : (Reading → Reading) → Res → Res
each f (Ok v) = Ok (f v)
each f (Err z) = Err z

abbrev pub read_terminal : Bool → ℕ → ℕ → Reading
read_terminal true c i = read_alone i (Match (i + 1)) None
read_terminal false c i = read_alone i (Failure 0 i) (expected i c)

abbrev pub OutcomeWithin : ℕ → ℕ → Outcome → Type 0
OutcomeWithin n L (Match j) = j ≤ n
OutcomeWithin n L (Failure l p) = (l ≤ L) × (p ≤ n)

abbrev pub NoteWithin : ℕ → Option Note → Type 0
NoteWithin n None = Unit {0}
NoteWithin n (Some x) = x.place ≤ n

-- what a row found tells may stand: its places lie within the text, its labels are the grammar's, and it matches nothing only where the rule may
pub record Fits (G : Setting) (k i : ℕ) (m : Mode) (v : Reading) : Type 0 where
  pub outcome : OutcomeWithin G.size G.grammar.L v.outcome
  pub note : NoteWithin G.size v.note
  pub first : (v.recoveries.place ≤ G.size) × (v.recoveries.label ≤ G.grammar.L)
  pub reach : v.reach ≤ G.size + 1
  pub nothing : v.outcome ≡ Match i → NullableRule G.grammar m k

abbrev pub matches : Outcome → Bool
matches (Match j) = true
matches (Failure l p) = false

abbrev pub label_of : Outcome → ℕ
label_of (Match j) = 0
label_of (Failure l p) = l

abbrev pub place_of : Outcome → ℕ
place_of (Match j) = j
place_of (Failure l p) = p

abbrev pub noted : Option Note → Bool
noted None = false
noted (Some x) = true

abbrev pub noted_place : Option Note → ℕ → ℕ
noted_place None i = 0
noted_place (Some x) i = x.place - i

abbrev pub noted_marks : Option Note → ℕ
noted_marks None = 0
noted_marks (Some x) = x.marks

-- the row of what a rule gave at place i: places as distances
abbrev pub row_of : ℕ → Reading → Row
row_of i v = record {
  matched = matches v.outcome;
  label = label_of v.outcome;
  end = place_of v.outcome - i;
  noted = noted v.note;
  note = noted_place v.note i;
  marks = noted_marks v.note;
  recoveries = v.recoveries.count;
  first_label = v.recoveries.label;
  first = v.recoveries.place - i;
  depth = v.depth;
  reach = v.reach - i;
}

-- a row is put, and counted
pub record Stores (G : Setting) (T : Store) (k i : ℕ) (m : Mode) (x : Row) (U : Store) : Type 0 where
  pub puts : Puts G.keeps G.P G.Q T.rows k i m x U.rows
  pub counts : U.fresh ≡ min (T.fresh + 1) most_fresh

-- h expressions are open: what is asked, read at place i in mode m from the store T, comes to r and leaves a store
pub data Reads (G : Setting) : ℕ → Store → Asked → ℕ → Mode → Res → Store → Type 0 where
  too_deep : {h e i : ℕ} {T : Store} {m : Mode} → G.frames ≤ h → Reads G h T (expression e) i m (Err TooDeep) T
  empty : {h e i : ℕ} {T : Store} {m : Mode} → h < G.frames → G.grammar.expr e ≡ Empty
      → Reads G h T (expression e) i m (Ok (read_alone i (Match i) None)) T
  terminal : {h e i a b c : ℕ} {T : Store} {m : Mode} → h < G.frames → G.grammar.expr e ≡ Terminal a b c
      → Reads G h T (expression e) i m (Ok (read_terminal (G.text a b i) c i)) T
  call : {h e i k : ℕ} {T U : Store} {m : Mode} {r : Res} → h < G.frames → G.grammar.expr e ≡ Call k
      → Reads G (h + 1) T (rule k) i m r U
      → Reads G h T (expression e) i m (each read_deeper r) U
  sequence_refused : {h e i a b : ℕ} {T U : Store} {m : Mode} {z : Refusal} → h < G.frames → G.grammar.expr e ≡ Sequence a b
      → Reads G (h + 1) T (expression a) i m (Err z) U
      → Reads G h T (expression e) i m (Err z) U
  sequence_fails : {h e i a b l p : ℕ} {T U : Store} {m : Mode} {v : Reading} → h < G.frames → G.grammar.expr e ≡ Sequence a b
      → Reads G (h + 1) T (expression a) i m (Ok v) U → v.outcome ≡ Failure l p
      → Reads G h T (expression e) i m (Ok (read_deeper v)) U
  sequence_goes_on : {h e i a b j : ℕ} {T U W : Store} {m : Mode} {v : Reading} {r : Res} → h < G.frames → G.grammar.expr e ≡ Sequence a b
      → Reads G (h + 1) T (expression a) i m (Ok v) U → v.outcome ≡ Match j → Reads G (h + 1) U (expression b) j m r W
      → Reads G h T (expression e) i m (each (read_sequence v) r) W
  choice_refused : {h e i a b s : ℕ} {T U : Store} {m : Mode} {z : Refusal} → h < G.frames → G.grammar.expr e ≡ Choice a b s
      → Reads G (h + 1) T (expression a) i m (Err z) U
      → Reads G h T (expression e) i m (Err z) U
  choice_stays : {h e i a b s : ℕ} {T U : Store} {m : Mode} {v : Reading} → h < G.frames → G.grammar.expr e ≡ Choice a b s
      → Reads G (h + 1) T (expression a) i m (Ok v) U → caught G.grammar s v.outcome ≡ false
      → Reads G h T (expression e) i m (Ok (read_deeper v)) U
  choice_turns : {h e i a b s : ℕ} {T U W : Store} {m : Mode} {v : Reading} {r : Res} → h < G.frames → G.grammar.expr e ≡ Choice a b s
      → Reads G (h + 1) T (expression a) i m (Ok v) U → caught G.grammar s v.outcome ≡ true → Reads G (h + 1) U (expression b) i m r W
      → Reads G h T (expression e) i m (each (read_other v) r) W
  repetition_refused : {h e i a : ℕ} {T U : Store} {m : Mode} {z : Refusal} → h < G.frames → G.grammar.expr e ≡ Repetition a
      → Reads G (h + 1) T (expression a) i m (Err z) U
      → Reads G h T (expression e) i m (Err z) U
  repetition_ends : {h e i a p : ℕ} {T U : Store} {m : Mode} {v : Reading} → h < G.frames → G.grammar.expr e ≡ Repetition a
      → Reads G (h + 1) T (expression a) i m (Ok v) U → v.outcome ≡ Failure 0 p
      → Reads G h T (expression e) i m (Ok (read_end i v)) U
  repetition_fails : {h e i a l p : ℕ} {T U : Store} {m : Mode} {v : Reading} → h < G.frames → G.grammar.expr e ≡ Repetition a
      → Reads G (h + 1) T (expression a) i m (Ok v) U → v.outcome ≡ Failure (suc l) p
      → Reads G h T (expression e) i m (Ok (read_deeper v)) U
  repetition_goes_on : {h e i a j : ℕ} {T U W : Store} {m : Mode} {v : Reading} {r : Res} → h < G.frames → G.grammar.expr e ≡ Repetition a
      → Reads G (h + 1) T (expression a) i m (Ok v) U → v.outcome ≡ Match j → Reads G h U (expression e) j m r W
      → Reads G h T (expression e) i m (each (read_round v) r) W
  predicate : {h e i a : ℕ} {T U : Store} {m : Mode} {r : Res} → h < G.frames → G.grammar.expr e ≡ Predicate a
      → Reads G (h + 1) T (expression a) i Off r U
      → Reads G h T (expression e) i m (each (read_predicate i) r) U
  throw_fails : {h e i l : ℕ} {T : Store} {m : Mode} → h < G.frames → G.grammar.expr e ≡ Throw l → recovers_lem G.grammar l m ≡ None
      → Reads G h T (expression e) i m (Ok (read_alone i (Failure l i) (unmarked i))) T
  throw_recovers : {h e i l a : ℕ} {T U : Store} {m : Mode} {r : Res} → h < G.frames → G.grammar.expr e ≡ Throw l → recovers_lem G.grammar l m ≡ Some a
      → Reads G (h + 1) T (expression a) i On r U
      → Reads G h T (expression e) i m (each (read_recovery l i) r) U
  row_unfit : {h k i : ℕ} {T : Store} {m : Mode} {x : Row} → T.rows k i m ≡ Some x → (Fits G k i m (told_from x i) → ⊥)
      → Reads G h T (rule k) i m (Err Unfit) T
  row_too_deep : {h k i : ℕ} {T : Store} {m : Mode} {x : Row} → T.rows k i m ≡ Some x → Fits G k i m (told_from x i) → G.frames < h + x.depth
      → Reads G h T (rule k) i m (Err TooDeep) T
  row_stands : {h k i : ℕ} {T : Store} {m : Mode} {x : Row} → T.rows k i m ≡ Some x → Fits G k i m (told_from x i) → h + x.depth ≤ G.frames
      → Reads G h T (rule k) i m (Ok (told_from x i)) T
  body_refused : {h k i : ℕ} {T U : Store} {m : Mode} {z : Refusal} → T.rows k i m ≡ None
      → Reads G h T (expression (G.grammar.body k)) i m (Err z) U
      → Reads G h T (rule k) i m (Err z) U
  body_gives : {h k i : ℕ} {T U W : Store} {m : Mode} {v : Reading} → T.rows k i m ≡ None
      → Reads G h T (expression (G.grammar.body k)) i m (Ok v) U → Stores G U k i m (row_of i v) W
      → Reads G h T (rule k) i m (Ok v) W

-- the setting of a reading over the elements xs
abbrev pub setting : {E : Type 0} → Peg → (ℕ → ℕ → E → Bool) → List E → ℕ → Bool → ℕ → ℕ → Setting
setting g fits xs frames keeps P Q = record { grammar = g; text = accepted fits xs; size = length xs; frames = frames; keeps = keeps; P = P; Q = Q }

abbrev pub store : Table → ℕ → Store
store T n = record { rows = T; fresh = n }
