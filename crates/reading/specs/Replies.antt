-- What a reading replies: the number of each refusal, question 8, and the answer with its count.
use Rattle.std.specs.Prelude.{◌≡◌, ℕ, ◌<◌, ◌≤◌, Ok, Err, Result}
use Rattle.grammar.specs.declared.expr.Mode.TheVariants.{On}
use Rattle.memo.specs.Tables.{Table}
use Rattle.reading.specs.declared.refusal.Refusal.{Refusal}
use Rattle.reading.specs.declared.refusal.Refusal.TheVariants.{Uncovered, Unfit, TooDeep}
use Rattle.reading.specs.declared.reply.Answer.{Answer}
use Rattle.reading.specs.declared.reply.Reply.{Reply}
use Rattle.reading.specs.Reads.{Setting, Store, store, Res, rule, Reads}

-- the number of each refusal
abbrev pub number : Refusal → ℕ
number Uncovered = 8
number Unfit = 9
number TooDeep = 10

-- the number of a result; 0 is an answer
abbrev pub result_number : Result Answer Refusal → ℕ
result_number (Ok x) = 0
result_number (Err z) = number z

-- the reply is a refusal with this number
abbrev pub RefusedBy : ℕ → Reply → Type 0
RefusedBy n q = result_number q.result ≡ n

-- what is answered of what was read
abbrev pub answer_of : Res → Result Answer Refusal
answer_of (Ok v) = Ok (record { outcome = v.outcome; note = v.note; recoveries = v.recoveries })
answer_of (Err z) = Err z

-- question 8: the memory's places are more than the text's capacity, and its rules no fewer than the grammar's
abbrev pub Covers : Setting → ℕ → Type 0
Covers G capacity = (capacity < G.P) × (G.grammar.R ≤ G.Q)

-- over the rows T, a reading replies q and leaves the rows U
pub data Replies (G : Setting) (capacity : ℕ) (T : Table) : Reply → Table → Type 0 where
  uncovered : (Covers G capacity → ⊥) → Replies G capacity T (record { result = Err Uncovered; fresh = 0 }) T
  covered : {r : Res} {U : Store} → Covers G capacity → Reads G 0 (store T 0) (rule 0) 0 On r U
      → Replies G capacity T (record { result = answer_of r; fresh = U.fresh }) U.rows
