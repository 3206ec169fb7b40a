-- Well-formed grammars: what may match nothing, leading parts, and walks that never end.
use Rattle.std.specs.Prelude.{◌≡◌, ℕ, suc, ◌<◌, Some, None, Option}
use Rattle.grammar.specs.declared.expr.Mode.{Mode}
use Rattle.grammar.specs.declared.expr.Mode.TheVariants.{On, Off}
use Rattle.grammar.specs.declared.expr.Expr.{Expr}
use Rattle.grammar.specs.declared.expr.Expr.TheVariants.{Empty, Terminal, Call, Sequence, Choice, Repetition, Predicate, Throw}
use Rattle.grammar.specs.Words.{Peg}

-- the recovery expression of a throw: only in mode on, and only if its label has one
abbrev pub recovers_lem : Peg → ℕ → Mode → Option ℕ
recovers_lem g l On = g.recovery l
recovers_lem g l Off = None

-- an expression may match nothing in a mode: the smallest such set
pub data Nullable (g : Peg) : Mode → Expr → Type 0 where
  by_empty : {m : Mode} → Nullable g m Empty
  by_repetition : {m : Mode} {a : ℕ} → Nullable g m (Repetition a)
  by_predicate : {m : Mode} {a : ℕ} → Nullable g m (Predicate a)
  by_call : {m : Mode} {r : ℕ} → Nullable g m (g.expr (g.body r)) → Nullable g m (Call r)
  by_sequence : {m : Mode} {a b : ℕ} → Nullable g m (g.expr a) → Nullable g m (g.expr b) → Nullable g m (Sequence a b)
  by_first : {m : Mode} {a b s : ℕ} → Nullable g m (g.expr a) → Nullable g m (Choice a b s)
  by_second : {m : Mode} {a b s : ℕ} → Nullable g m (g.expr b) → Nullable g m (Choice a b s)
  by_recovery : {m : Mode} {l e : ℕ} → recovers_lem g l m ≡ Some e → Nullable g On (g.expr e) → Nullable g m (Throw l)

-- the expression's leading parts, each with the mode in which it is evaluated
pub data Leads (g : Peg) : Expr → Mode → ℕ → Mode → Type 0 where
  to_body : {m : Mode} {r : ℕ} → Leads g (Call r) m (g.body r) m
  to_first : {m : Mode} {a b : ℕ} → Leads g (Sequence a b) m a m
  past_first : {m : Mode} {a b : ℕ} → Nullable g m (g.expr a) → Leads g (Sequence a b) m b m
  to_one : {m : Mode} {a b s : ℕ} → Leads g (Choice a b s) m a m
  to_other : {m : Mode} {a b s : ℕ} → Leads g (Choice a b s) m b m
  to_part : {m : Mode} {a : ℕ} → Leads g (Repetition a) m a m
  to_inside : {m : Mode} {a : ℕ} → Leads g (Predicate a) m a Off
  to_recovery : {m : Mode} {l e : ℕ} → recovers_lem g l m ≡ Some e → Leads g (Throw l) m e On

-- a walk to leading parts that goes on for ever, from expression e in mode m
pub record Endless (g : Peg) (e : ℕ) (m : Mode) : Type 0 where
  pub place : ℕ → ℕ
  pub mode : ℕ → Mode
  pub starts : place 0 ≡ e
  pub starts_in : mode 0 ≡ m
  pub goes : (k : ℕ) → Leads g (g.expr (place k)) (mode k) (place (suc k)) (mode (suc k))

-- the rule, the operands and the recovery expression that an expression names exist; its set and label are not asked about
abbrev pub Refers : Peg → Expr → Type 0
Refers g Empty = Unit {0}
Refers g (Terminal a b c) = Unit {0}
Refers g (Call r) = r < g.R
Refers g (Sequence a b) = (a < g.N) × (b < g.N)
Refers g (Choice a b s) = (a < g.N) × (b < g.N)
Refers g (Repetition a) = a < g.N
Refers g (Predicate a) = a < g.N
Refers g (Throw l) = (e : ℕ) → g.recovery l ≡ Some e → e < g.N

-- so it is of every expression, and the bodies of rules exist
abbrev pub Whole : Peg → Type 0
Whole g = ((r : ℕ) → r < g.R → g.body r < g.N) × ((e : ℕ) → e < g.N → Refers g (g.expr e))

-- no repetition's part may match nothing, in either mode
abbrev pub Solid : Peg → Type 0
Solid g = (e a : ℕ) (m : Mode) → e < g.N → g.expr e ≡ Repetition a → Nullable g m (g.expr a) → ⊥

-- no walk to leading parts goes on for ever, in either mode
abbrev pub Ending : Peg → Type 0
Ending g = (e : ℕ) (m : Mode) → e < g.N → Endless g e m → ⊥
