-- What stays so over a run of parses, changes with their shifts, and empties: rows true, held within known, known derived and closed.
use Rattle.std.specs.Prelude.{◌≡◌, ℕ, ◌+◌, ◌<◌, ◌≤◌, Bool, true, List, [], length}
use Rattle.grammar.specs.declared.expr.Mode.TheVariants.{On}
use Rattle.grammar.specs.Words.{Peg}
use Rattle.grammar.specs.Form.{Whole}
use Rattle.text.specs.Meaning.{accepted, replaced}
use Rattle.peg.specs.Members.{In}
use Rattle.peg.specs.declared.results.RulePlace.{RulePlace}
use Rattle.peg.specs.Rules.{Text}
use Rattle.peg.specs.Fitting.{Labelled, Marked}
use Rattle.peg.specs.Completing.{Among}
use Rattle.peg.specs.Counting.{learned}
use Rattle.peg.specs.Known.{Known}
use Rattle.peg.specs.Settling.{Settles}
use Rattle.memo.specs.Tables.{Table, Empty, Shifts}
use Rattle.reading.specs.declared.reply.Reply.{Reply}
use Rattle.reading.specs.Reads.{Setting, Res, rule, setting}
use Rattle.reading.specs.Replies.{Replies}
use Rattle.reading.specs.Truth.{TrueRows, ComesTo}
use Rattle.reading.specs.Counts.{HeldIn, HeldAre}

-- every rule-place of the list is of the grammar's rules and of a text of n elements
abbrev pub AllAmong : Peg → ℕ → List RulePlace → Type 0
AllAmong g n ks = (z : RulePlace) → In z ks → Among g.R n z

-- a shift for k elements at p that become ys, over the memory's table
pub record Shifted (E : Type 0) : Type 0 where
  -- rows kept or moved are true over the changed text
  pub rows : (g : Peg) (fits : ℕ → ℕ → E → Bool) (xs : List E) (p k : ℕ) (ys : List E) → p + k ≤ length xs
      → (keeps : Bool) (P : ℕ) (T U : Table) → Shifts keeps P p k (length ys) T U
      → TrueRows g (accepted fits xs) (length xs) T → TrueRows g (accepted fits (replaced xs p k ys)) (length (replaced xs p k ys)) U
  -- rows held lie within what the settle rule keeps
  pub held : (g : Peg) (fits : ℕ → ℕ → E → Bool) (xs : List E) (p k : ℕ) (ys : List E) → p + k ≤ length xs
      → (keeps : Bool) (P : ℕ) (T U : Table) → Shifts keeps P p k (length ys) T U → TrueRows g (accepted fits xs) (length xs) T
      → (ks ls : List RulePlace) → AllAmong g (length xs) ks → Settles g (accepted fits xs) p k (length ys) ks ls → HeldIn T ks → HeldIn U ls
  -- and over a memory that forgets nothing, with places above the new text's, they are just these
  pub exactly : (g : Peg) (fits : ℕ → ℕ → E → Bool) (xs : List E) (p k : ℕ) (ys : List E) → p + k ≤ length xs
      → (P : ℕ) (T U : Table) → length (replaced xs p k ys) < P → Shifts true P p k (length ys) T U → TrueRows g (accepted fits xs) (length xs) T
      → (ks ls : List RulePlace) → AllAmong g (length xs) ks → Settles g (accepted fits xs) p k (length ys) ks ls → HeldAre T ks → HeldAre U ls

-- what is the same throughout a run: the memory's promise, and the text's capacity
pub record Bounds : Type 0 where
  pub keeps : Bool
  pub P : ℕ
  pub Q : ℕ
  pub capacity : ℕ

-- the setting of a parse in a run
abbrev pub parse_of : {E : Type 0} → Peg → (ℕ → ℕ → E → Bool) → List E → ℕ → Bounds → Setting
parse_of g fits xs frames b = setting g fits xs frames b.keeps b.P b.Q

-- question 8 is answered yes
abbrev pub Covering : Peg → Bounds → Type 0
Covering g b = (b.capacity < b.P) × (g.R ≤ b.Q)

-- the invariant of a run over the text t of n elements, with the rows T held and the rule-places ks known
pub record Tracks (g : Peg) (t : Text) (n : ℕ) (b : Bounds) (T : Table) (ks : List RulePlace) : Type 0 where
  pub room : n ≤ b.capacity
  -- the rows are true
  pub rows : TrueRows g t n T
  -- known are rule-places of the grammar and the text, derived and closed
  pub among : AllAmong g n ks
  pub known : Known g t ks
  -- held are known ones, and just these over a memory that forgets nothing, past question 8
  pub held : HeldIn T ks
  pub kept : b.keeps ≡ true → Covering g b → HeldAre T ks

-- each step keeps the invariant
pub record Steps (E : Type 0) : Type 0 where
  -- no row is held, and nothing is known: at the open, and after an empty
  pub emptied : (g : Peg) (t : Text) (n : ℕ) (b : Bounds) (T : Table) → n ≤ b.capacity → Empty T → Tracks g t n b T []
  -- a parse that question 8 refuses
  pub uncovered : (g : Peg) (fits : ℕ → ℕ → E → Bool) (xs : List E) (frames : ℕ) (b : Bounds) (T U : Table) (q : Reply) (ks : List RulePlace)
      → (Covering g b → ⊥) → Replies (parse_of g fits xs frames b) b.capacity T q U
      → Tracks g (accepted fits xs) (length xs) b T ks → Tracks g (accepted fits xs) (length xs) b U ks
  -- any other parse, answered or too deep, where by the rules alone it completes zs
  pub parsed : (g : Peg) → Whole g → Labelled g → Marked g → 0 < g.R
      → (fits : ℕ → ℕ → E → Bool) (xs : List E) (frames : ℕ) (b : Bounds) (T U : Table) (q : Reply) (ks : List RulePlace)
      → Covering g b → Replies (parse_of g fits xs frames b) b.capacity T q U
      → (s : Res) (zs : List RulePlace) → ComesTo (parse_of g fits xs frames b) 0 (rule 0) 0 On s zs
      → Tracks g (accepted fits xs) (length xs) b T ks → Tracks g (accepted fits xs) (length xs) b U (learned ks zs)
  -- a change of k elements at p into ys, with its shift
  pub shifted : (g : Peg) (fits : ℕ → ℕ → E → Bool) (xs : List E) (p k : ℕ) (ys : List E) (b : Bounds) (T U : Table) (ks ls : List RulePlace)
      → p + k ≤ length xs → length (replaced xs p k ys) ≤ b.capacity
      → Shifts b.keeps b.P p k (length ys) T U → Settles g (accepted fits xs) p k (length ys) ks ls
      → Tracks g (accepted fits xs) (length xs) b T ks
      → Tracks g (accepted fits (replaced xs p k ys)) (length (replaced xs p k ys)) b U ls
