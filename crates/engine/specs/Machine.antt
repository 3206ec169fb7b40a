-- What the engine's records mean: how an open frame goes on with what its part gave, and what is kept from turn to turn.
use Rattle.std.specs.Prelude.{◌≡◌, ℕ, zero, suc, ◌+◌, ◌-◌, ◌*◌, ◌^◌, ◌<◌, ◌≤◌, max, Bool, true, false, List, [], ◌∷◌, length, slice_set, Some, Ok, Err, Result}
use Rattle.grammar.specs.declared.expr.Mode.{Mode}
use Rattle.grammar.specs.declared.expr.Mode.TheVariants.{On, Off}
use Rattle.grammar.specs.declared.expr.Expr.{Expr}
use Rattle.grammar.specs.declared.expr.Expr.TheVariants.{Empty, Terminal, Call, Sequence, Choice, Repetition, Predicate, Throw}
use Rattle.grammar.specs.Words.{Peg}
use Rattle.grammar.specs.Form.{recovers_lem, Nullable, Whole, Solid}
use Rattle.peg.specs.declared.results.Outcome.{Outcome}
use Rattle.peg.specs.declared.results.Outcome.TheVariants.{Match, Failure}
use Rattle.peg.specs.declared.results.Reading.{Reading}
use Rattle.peg.specs.Rules.{join, caught}
use Rattle.peg.specs.Summaries.{added}
use Rattle.peg.specs.Readings.{read_deeper, read_sequence, read_other, read_end, read_round, read_predicate, read_recovery}
use Rattle.reading.specs.declared.refusal.Refusal.{Refusal}
use Rattle.engine.specs.declared.frame.Frame.{Frame}
use Rattle.engine.specs.declared.step.Ask.{Ask}
use Rattle.engine.specs.declared.step.Move.{Move}
use Rattle.engine.specs.declared.step.Move.TheVariants.{Open, Give}
use Rattle.engine.specs.declared.step.Control.{Control}
use Rattle.engine.specs.declared.step.Control.TheVariants.{Evaluate, Return}
use Rattle.engine.specs.Frames.{mode_by, so_far, fresh_frame, going_on}
use Rattle.reading.specs.Reads.{Setting, Store, Res, expression, each, row_of, place_of, NoteWithin, Stores, Reads}

-- what the code asks of a setting
pub record Sane (G : Setting) : Type 0 where
  pub whole : Whole G.grammar
  pub solid : Solid G.grammar
  pub marks : (e a b c : ℕ) → e < G.grammar.N → G.grammar.expr e ≡ Terminal a b c → c < 32
  pub labels : (e l : ℕ) → e < G.grammar.N → G.grammar.expr e ≡ Throw l → l < 256
  pub inside : (a b i : ℕ) → G.text a b i ≡ true → i < G.size
  pub small : G.size ≤ 65535

-- the rounds of a repetition so far, and one more
abbrev pub joined : Reading → Reading → Reading
joined s v = record {
  outcome = v.outcome;
  note = join s.note v.note;
  recoveries = added s.recoveries v.recoveries;
  depth = max s.depth v.depth;
  reach = max s.reach v.reach;
}

-- what the rounds so far, with one that gave v, come to
abbrev pub rounds : Frame → ℕ → Reading → Reading
rounds f zero v = v
rounds f (suc s) v = joined (so_far f) v

-- a repetition from place i on whose part failed with label l: label 0 ends it there
abbrev pub read_unmatched : ℕ → ℕ → Reading → Reading
read_unmatched i zero v = read_end i v
read_unmatched i (suc l) v = read_deeper v

-- what a repetition gives, from what it gives after the rounds so far
abbrev pub finish : Frame → ℕ → Reading → Reading
finish f zero w = w
finish f (suc s) w = read_round (so_far f) w

-- A call whose rule's body gave a result.
pub data Called (G : Setting) (k i : ℕ) (m : Mode) : Res → Store → Res → Store → Type 0 where
  refused : {z : Refusal} {T : Store} → Called G k i m (Err z) T (Err z) T
  gives : {v : Reading} {T U : Store} → Stores G T k i m (row_of i v) U → Called G k i m (Ok v) T (Ok (read_deeper v)) U

-- A sequence whose first part gave a result.
pub data First (G : Setting) (h b : ℕ) (m : Mode) : Res → Store → Res → Store → Type 0 where
  refused : {z : Refusal} {T : Store} → First G h b m (Err z) T (Err z) T
  fails : {v : Reading} {T : Store} {l p : ℕ} → v.outcome ≡ Failure l p → First G h b m (Ok v) T (Ok (read_deeper v)) T
  goes : {v : Reading} {T U : Store} {r : Res} {j : ℕ} → v.outcome ≡ Match j → Reads G (h + 1) T (expression b) j m r U
      → First G h b m (Ok v) T (each (read_sequence v) r) U

-- A choice whose first part gave a result.
pub data One (G : Setting) (h b s i : ℕ) (m : Mode) : Res → Store → Res → Store → Type 0 where
  refused : {z : Refusal} {T : Store} → One G h b s i m (Err z) T (Err z) T
  stays : {v : Reading} {T : Store} → caught G.grammar s v.outcome ≡ false → One G h b s i m (Ok v) T (Ok (read_deeper v)) T
  turns : {v : Reading} {T U : Store} {r : Res} → caught G.grammar s v.outcome ≡ true → Reads G (h + 1) T (expression b) i m r U
      → One G h b s i m (Ok v) T (each (read_other v) r) U

-- A repetition whose part gave a result at place i, after the rounds that fin adds.
pub data Round (G : Setting) (h e i : ℕ) (m : Mode) (fin : Reading → Reading) : Res → Store → Res → Store → Type 0 where
  refused : {z : Refusal} {T : Store} → Round G h e i m fin (Err z) T (Err z) T
  ends : {v : Reading} {T : Store} {p : ℕ} → v.outcome ≡ Failure 0 p → Round G h e i m fin (Ok v) T (Ok (fin (read_end i v))) T
  fails : {v : Reading} {T : Store} {l p : ℕ} → v.outcome ≡ Failure (suc l) p → Round G h e i m fin (Ok v) T (Ok (fin (read_deeper v))) T
  goes : {v : Reading} {T U : Store} {r : Res} {j : ℕ} → v.outcome ≡ Match j → Reads G h T (expression e) j m r U
      → Round G h e i m fin (Ok v) T (each fin (each (read_round v) r)) U

-- An expression whose last part gave a result.
pub data Last (f : Reading → Reading) : Res → Store → Res → Store → Type 0 where
  gives : {r : Res} {T : Store} → Last f r T (each f r) T

-- How the frame f, of expression x in mode m, goes on: by its kind, and whether a part is finished.
abbrev pub ResumeAs : Setting → ℕ → Frame → Mode → Expr → ℕ → Res → Store → Res → Store → Type 0
ResumeAs G h f m Empty s = Last (λ v. v)
ResumeAs G h f m (Terminal a b c) s = Last (λ v. v)
ResumeAs G h f m (Call k) s = Called G k f.place m
ResumeAs G h f m (Sequence a b) zero = First G h b m
ResumeAs G h f m (Sequence a b) (suc s) = Last (read_sequence (so_far f))
ResumeAs G h f m (Choice a b c) zero = One G h b c f.place m
ResumeAs G h f m (Choice a b c) (suc s) = Last (read_other (so_far f))
ResumeAs G h f m (Repetition a) s = Round G h f.expression f.at m (finish f s)
ResumeAs G h f m (Predicate a) s = Last (read_predicate f.place)
ResumeAs G h f m (Throw l) s = Last (read_recovery l f.place)

-- The frame f, below which h are open, handed r at the store T, can give r2 and leave U.
abbrev pub Resume : Setting → ℕ → Frame → Res → Store → Res → Store → Type 0
Resume G h f r T r2 U = ResumeAs G h f (mode_by f.mode) (G.grammar.expr f.expression) f.stage r T r2 U

abbrev pub Ahead : ℕ → ℕ → Outcome → Type 0
Ahead i n (Match j) = (i ≤ j) × (j ≤ n)
Ahead i n (Failure l p) = p ≤ n

-- What is known of a reading of expression e at i in mode m, below which h are open.
pub record Sound (G : Setting) (h e i : ℕ) (m : Mode) (v : Reading) : Type 0 where
  pub outcome : Ahead i G.size v.outcome
  pub nothing : v.outcome ≡ Match i → ∥ Nullable G.grammar m (G.grammar.expr e) ∥₁
  pub note : NoteWithin G.size v.note
  pub first : v.recoveries.place ≤ G.size
  pub reach : v.reach ≤ G.size + 1
  pub level : h + v.depth ≤ G.frames

-- The part that a frame in mode m waits for: e at i in mode o.
abbrev pub AwaitsAs : Setting → Frame → Mode → Expr → ℕ → ℕ → ℕ → Mode → Type 0
AwaitsAs G f m Empty s e i o = ⊥
AwaitsAs G f m (Terminal a b c) s e i o = ⊥
AwaitsAs G f m (Call k) s e i o = (e ≡ G.grammar.body k) × (i ≡ f.place) × (o ≡ m)
AwaitsAs G f m (Sequence a b) zero e i o = (e ≡ a) × (i ≡ f.place) × (o ≡ m)
AwaitsAs G f m (Sequence a b) (suc s) e i o = (e ≡ b) × (i ≡ f.at) × ((o ≡ m) × (f.at ≡ f.place → ∥ Nullable G.grammar m (G.grammar.expr a) ∥₁))
AwaitsAs G f m (Choice a b c) zero e i o = (e ≡ a) × (i ≡ f.place) × (o ≡ m)
AwaitsAs G f m (Choice a b c) (suc s) e i o = (e ≡ b) × (i ≡ f.place) × (o ≡ m)
AwaitsAs G f m (Repetition a) s e i o = (e ≡ a) × (i ≡ f.at) × (o ≡ m)
AwaitsAs G f m (Predicate a) s e i o = (e ≡ a) × (i ≡ f.place) × (o ≡ Off)
AwaitsAs G f m (Throw l) s e i o = (recovers_lem G.grammar l m ≡ Some e) × (i ≡ f.place) × (o ≡ On)

-- The frame f, below which h are open, waits for e at i in mode m.
pub record Awaits (G : Setting) (h : ℕ) (f : Frame) (e i : ℕ) (m : Mode) : Type 0 where
  pub known : f.expression < G.grammar.N
  pub start : f.place ≤ f.at
  pub within : f.at ≤ G.size
  pub note : NoteWithin G.size (so_far f).note
  pub first : f.first ≤ G.size
  pub reach : f.reach ≤ G.size + 1
  pub level : h + 1 + f.depth ≤ G.frames
  pub part : AwaitsAs G f (mode_by f.mode) (G.grammar.expr f.expression) f.stage e i m

abbrev pub digit_as : ℕ → Expr → ℕ → ℕ → ℕ
digit_as n Empty s at = 1
digit_as n (Terminal a b c) s at = 1
digit_as n (Call k) s at = 1
digit_as n (Sequence a b) zero at = 2
digit_as n (Sequence a b) (suc s) at = 1
digit_as n (Choice a b c) zero at = 2
digit_as n (Choice a b c) (suc s) at = 1
digit_as n (Repetition a) s at = (n - at) + 1
digit_as n (Predicate a) s at = 1
digit_as n (Throw l) s at = 1

-- how many more parts a frame may begin
abbrev pub digit : Setting → Frame → ℕ
digit G f = digit_as G.size (G.grammar.expr f.expression) f.stage f.at

-- e at i in mode m is opened as the frame f, which begins with a at j in mode o.
pub record Opened (G : Setting) (T : Store) (h e i : ℕ) (m : Mode) (f : Frame) (a j : ℕ) (o : Mode) : Type 0 where
  pub level : h < G.frames
  pub known : a < G.grammar.N
  pub place : j ≤ G.size
  pub of : (f.expression ≡ e) × (f.place ≡ i) × (mode_by f.mode ≡ m)
  pub awaits : Awaits G h f a j o
  pub small : digit G f ≤ G.size + 2
  pub back : (r : Res) (U : Store) (r2 : Res) (W : Store) → Reads G (h + 1) T (expression a) j o r U → Resume G h f r U r2 W → Reads G h T (expression e) i m r2 W

-- what is asked is opened with its part a in mode o, at its own place
abbrev pub opens_with : Ask → ℕ → Mode → Move
opens_with q a o = Open (fresh_frame q.expression q.place q.mode) (record { expression = a; place = q.place; mode = o })

abbrev pub Entered : Setting → Store → ℕ → ℕ → ℕ → Mode → Result Move Refusal → Type 0
Entered G T h e i m (Err z) = Reads G h T (expression e) i m (Err z) T
Entered G T h e i m (Ok (Give v)) = Sound G h e i m v × Reads G h T (expression e) i m (Ok v) T
Entered G T h e i m (Ok (Open f q)) = Opened G T h e i m f q.expression q.place q.mode

-- f, handed v at the store T, becomes f2, which goes on with a at j in mode o from the store U.
pub record Continued (G : Setting) (T U : Store) (h : ℕ) (f : Frame) (v : Reading) (f2 : Frame) (a j : ℕ) (o : Mode) : Type 0 where
  pub known : a < G.grammar.N
  pub place : j ≤ G.size
  pub of : (f2.expression ≡ f.expression) × (f2.place ≡ f.place) × (f2.mode ≡ f.mode)
  pub awaits : Awaits G h f2 a j o
  pub less : digit G f2 < digit G f
  pub back : (r : Res) (W : Store) (r2 : Res) (X : Store) → Reads G (h + 1) U (expression a) j o r W → Resume G h f2 r W r2 X → Resume G h f (Ok v) T r2 X

-- f, its parts having come to v, goes on with a at j
abbrev pub goes_on_with : Frame → ℕ → ℕ → Reading → Move
goes_on_with f a j v = Open (going_on f j v) (record { expression = a; place = j; mode = mode_by f.mode })

abbrev pub Resumed : Setting → Store → Store → ℕ → Frame → Reading → Move → Type 0
Resumed G T U h f v (Give w) = Sound G h f.expression f.place (mode_by f.mode) w × Resume G h f (Ok v) T (Ok w) U
Resumed G T U h f v (Open f2 q) = Continued G T U h f v f2 q.expression q.place q.mode

-- a step at level k: the frame that it opens is held there
abbrev pub frames_after : List Frame → ℕ → Move → List Frame
frames_after fs k (Open f q) = slice_set fs k f
frames_after fs k (Give v) = fs

-- how many are open then
abbrev pub open_after : ℕ → Move → ℕ
open_after k (Open f q) = k + 1
open_after k (Give v) = k

-- what comes next
abbrev pub comes_next : Move → Control
comes_next (Open f q) = Evaluate q
comes_next (Give v) = Return v

-- of n frames, one is there for what is opened at level k
abbrev pub Room : ℕ → ℕ → Move → Type 0
Room n k (Open f q) = k < n
Room n k (Give v) = Unit {0}

-- the setting goes by a memory of this promise, with P places and Q rules
abbrev pub GoesBy : Setting → Bool → ℕ → ℕ → Type 0
GoesBy G keeps P Q = (G.keeps ≡ keeps) × (G.P ≡ P) × (G.Q ≡ Q)

-- what resuming f with v asks
pub record Awaiting (G : Setting) (h : ℕ) (f : Frame) (v : Reading) : Type 0 where
  pub part : ℕ
  pub place : ℕ
  pub mode : Mode
  pub awaits : Awaits G h f part place mode
  pub sound : Sound G (h + 1) part place mode v

-- Whatever the open frames make of r and T is an answer to the whole question.
abbrev pub Answers : Setting → (Res → Store → Type 0) → List Frame → Res → Store → Type 0
Answers G Goal [] r T = Goal r T
Answers G Goal (f ∷ fs) r T = (r2 : Res) (U : Store) → Resume G (length fs) f r T r2 U → Answers G Goal fs r2 U

abbrev pub Chain : Setting → List Frame → ℕ → ℕ → Mode → Type 0
Chain G [] e i m = Unit {0}
Chain G (f ∷ fs) e i m = Awaits G (length fs) f e i m × Chain G fs f.expression f.place (mode_by f.mode)

-- e at i in mode m is to be evaluated below the open frames
pub record In (G : Setting) (Goal : Res → Store → Type 0) (T : Store) (fs : List Frame) (e i : ℕ) (m : Mode) : Type 0 where
  pub known : e < G.grammar.N
  pub place : i ≤ G.size
  pub chain : Chain G fs e i m
  pub next : (r : Res) (U : Store) → Reads G (length fs) T (expression e) i m r U → Answers G Goal fs r U

-- v is to be handed to the last opened frame
pub record Out (G : Setting) (Goal : Res → Store → Type 0) (T : Store) (fs : List Frame) (v : Reading) : Type 0 where
  pub e : ℕ
  pub i : ℕ
  pub m : Mode
  pub sound : Sound G (length fs) e i m v
  pub chain : Chain G fs e i m
  pub next : Answers G Goal fs (Ok v) T

-- what is kept from turn to turn
abbrev pub Going : Setting → (Res → Store → Type 0) → Store → List Frame → Control → Type 0
Going G Goal T fs (Evaluate q) = In G Goal T fs q.expression q.place q.mode
Going G Goal T fs (Return v) = Out G Goal T fs v

-- what falls from turn to turn: the frames' digits, to the base of the size and four
abbrev pub weight : Setting → List Frame → ℕ
weight G [] = 0
weight G (f ∷ fs) = digit G f * (G.size + 4) ^ (G.frames - length fs) + weight G fs

abbrev pub left : Setting → List Frame → Control → ℕ
left G fs (Evaluate q) = (G.size + 3) * (G.size + 4) ^ (G.frames - length fs) + weight G fs
left G fs (Return v) = weight G fs

-- resuming f, of expression x, with v comes to this: wherever f waits for v
abbrev pub Resumes : Setting → ℕ → Frame → Reading → Expr → Store → Store → Move → Type 0
Resumes G h f v x T U s = Sane G → Awaiting G h f v → G.grammar.expr f.expression ≡ x → Resumed G T U h f v s

-- places that a row can hold as distances
pub record Fine (v : Reading) : Type 0 where
  pub outcome : place_of v.outcome ≤ 65535
  pub note : NoteWithin 65535 v.note
  pub first : v.recoveries.place ≤ 65535
  pub reach : v.reach ≤ 65536

-- what resuming asks: some setting of the grammar in which the frame waits for what it is handed
pub record Handed (g : Peg) (h : ℕ) (f : Frame) (v : Reading) : Type 0 where
  pub setting : Setting
  pub of : setting.grammar ≡ g
  pub sane : Sane setting
  pub small : setting.frames < 2 ^ 64
  pub awaiting : Awaiting setting h f v
