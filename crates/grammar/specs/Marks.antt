-- What the check marks of expressions: four yes/no facts of each, two in each of its two work words.
use Rattle.std.specs.Prelude.{◌≡◌, ℕ, zero, suc, ◌+◌, ◌*◌, ◌<◌, ◌≤◌, Bool, true, false, not, ◌&&◌, ◌||◌, ◌⊎◌, List, length, replicate, Some, None, Ok, Err, Option, Result, slice_index}
use Rattle.grammar.specs.declared.expr.Mode.{Mode}
use Rattle.grammar.specs.declared.expr.Mode.TheVariants.{On, Off}
use Rattle.grammar.specs.declared.expr.Expr.{Expr}
use Rattle.grammar.specs.declared.expr.Expr.TheVariants.{Empty, Terminal, Call, Sequence, Choice, Repetition, Predicate, Throw}
use Rattle.grammar.specs.declared.marks.Fact.{Fact}
use Rattle.grammar.specs.declared.marks.Fact.TheVariants.{MayMatchNothing, WalksEnd}
use Rattle.grammar.specs.declared.fault.FormFault.{FormFault}
use Rattle.grammar.specs.Faults.{right, form_report}
use Rattle.grammar.specs.Words.{bit, Peg, meaning}
use Rattle.grammar.specs.Form.{recovers_lem, Nullable, Leads, Endless}
use Rattle.grammar.specs.Questions.{HollowAt, EndlessAt, Tells, Reported, Accepted, fault_left}

abbrev pub fact_bit : Fact → ℕ
fact_bit MayMatchNothing = 0
fact_bit WalksEnd = 1

abbrev pub mode_bit : Mode → ℕ
mode_bit On = 0
mode_bit Off = 1

-- the mode of a number: 0 is mode on, and every other one mode off
abbrev pub bit_mode : ℕ → Mode
bit_mode zero = On
bit_mode (suc n) = Off

abbrev pub other : Fact → Fact
other MayMatchNothing = WalksEnd
other WalksEnd = MayMatchNothing

-- what is marked of each expression in each mode
abbrev pub Marks : Type 0
Marks = Fact → ℕ → Mode → Bool

-- the marks that work words hold; where they lie is known here alone
unfoldable pub mark : List ℕ → Marks
mark ws f e m = bit (slice_index ws (2 * e + mode_bit m)) (fact_bit f)

-- one mark more, and every other one as before
pub record Marked (ws xs : List ℕ) (f : Fact) (e : ℕ) (m : Mode) : Type 0 where
  pub here : mark xs f e m ≡ true
  pub others : (f' : Fact) (e' : ℕ) (m' : Mode) → ((f' ≡ f) × (e' ≡ e) × (m' ≡ m)) ⊎ (mark xs f' e' m' ≡ mark ws f' e' m')

abbrev pub may_recovery : Marks → Option ℕ → Bool
may_recovery s None = false
may_recovery s (Some e) = s MayMatchNothing e On

-- whether an expression may match nothing, if the marks say so of its parts
abbrev pub may : Peg → Marks → Expr → Mode → Bool
may g s Empty m = true
may g s (Terminal a b c) m = false
may g s (Call r) m = s MayMatchNothing (g.body r) m
may g s (Sequence a b) m = s MayMatchNothing a m && s MayMatchNothing b m
may g s (Choice a b c) m = s MayMatchNothing a m || s MayMatchNothing b m
may g s (Repetition a) m = true
may g s (Predicate a) m = true
may g s (Throw l) m = may_recovery s (recovers_lem g l m)

abbrev pub ends_recovery : Marks → Option ℕ → Bool
ends_recovery s None = true
ends_recovery s (Some e) = s WalksEnd e On

-- whether every walk ends, if the marks say so of the leading parts
abbrev pub ends : Peg → Marks → Expr → Mode → Bool
ends g s Empty m = true
ends g s (Terminal a b c) m = true
ends g s (Call r) m = s WalksEnd (g.body r) m
ends g s (Sequence a b) m = s WalksEnd a m && (not (s MayMatchNothing a m) || s WalksEnd b m)
ends g s (Choice a b c) m = s WalksEnd a m && s WalksEnd b m
ends g s (Repetition a) m = s WalksEnd a m
ends g s (Predicate a) m = s WalksEnd a Off
ends g s (Throw l) m = ends_recovery s (recovers_lem g l m)

-- whether a fact holds of an expression, if the marks say so of its parts
abbrev pub due : Peg → Marks → Fact → Expr → Mode → Bool
due g s MayMatchNothing x m = may g s x m
due g s WalksEnd x m = ends g s x m

-- every walk to leading parts from e in mode m ends
pub data Halting (g : Peg) : ℕ → Mode → Type 0 where
  halts : {e : ℕ} {m : Mode} → ((e' : ℕ) (m' : Mode) → Leads g (g.expr e) m e' m' → Halting g e' m') → Halting g e m

-- what a mark says
abbrev pub Holds : Peg → Fact → ℕ → Mode → Type 0
Holds g MayMatchNothing e m = Nullable g m (g.expr e)
Holds g WalksEnd e m = Halting g e m

-- the marks of a fact are true
abbrev pub Backed : Peg → Marks → Fact → Type 0
Backed g s f = (e : ℕ) (m : Mode) → e < g.N → s f e m ≡ true → Holds g f e m

-- no mark of a fact is due and missing
abbrev pub Complete : Peg → Marks → Fact → Type 0
Complete g s f = (e : ℕ) (m : Mode) → e < g.N → due g s f (g.expr e) m ≡ true → s f e m ≡ true

-- the marks say just which expressions may match nothing
pub record Right (g : Peg) (s : Marks) : Type 0 where
  pub true_marks : Backed g s MayMatchNothing
  pub all_marks : (e : ℕ) (m : Mode) → e < g.N → Nullable g m (g.expr e) → s MayMatchNothing e m ≡ true

-- what the marks of the other fact have to be when a fact is marked
abbrev pub Ready : Peg → Marks → Fact → Type 0
Ready g s MayMatchNothing = Unit {0}
Ready g s WalksEnd = Right g s

-- the marks of a fact tell just where it holds, in the words of the questions
abbrev pub Decided : Peg → Marks → Fact → Type 0
Decided g s MayMatchNothing = Right g s
Decided g s WalksEnd = (e : ℕ) (m : Mode) → e < g.N → (s WalksEnd e m ≡ true → Endless g e m → ⊥) × (s WalksEnd e m ≡ false → Endless g e m)

-- what an expression is at fault for, where a fact is asked about
abbrev pub FaultAt : Peg → Fact → ℕ → Type 0
FaultAt g MayMatchNothing = HollowAt g
FaultAt g WalksEnd = EndlessAt g

-- a repetition whose part is marked in either mode
abbrev pub hollow : Marks → Expr → Bool
hollow s Empty = false
hollow s (Terminal a b c) = false
hollow s (Call r) = false
hollow s (Sequence a b) = false
hollow s (Choice a b c) = false
hollow s (Repetition a) = s MayMatchNothing a On || s MayMatchNothing a Off
hollow s (Predicate a) = false
hollow s (Throw l) = false

-- whether an expression is at fault, by the marks
abbrev pub faulty : Peg → Marks → Fact → ℕ → Bool
faulty g s MayMatchNothing e = hollow s (g.expr e)
faulty g s WalksEnd e = not (s WalksEnd e On) || not (s WalksEnd e Off)

-- no mark of a fact is set
abbrev pub Blank : Marks → Fact → Type 0
Blank s f = (e : ℕ) (m : Mode) → s f e m ≡ false

-- the marks of a fact are as before
abbrev pub Same : Marks → Marks → Fact → Type 0
Same s s' f = (e : ℕ) (m : Mode) → s' f e m ≡ s f e m

abbrev pub unset : Bool → ℕ
unset true = 0
unset false = 1

-- how many marks of a fact are missing among the first n expressions
abbrev pub missing : Marks → Fact → ℕ → ℕ
missing s f zero = 0
missing s f (suc n) = unset (s f n On) + unset (s f n Off) + missing s f n

-- from the work words ws to xs, marks of a fact were set that hold; r says whether there were any
pub record Grew (g : Peg) (ws xs : List ℕ) (f : Fact) (r : Bool) : Type 0 where
  pub backed : Backed g (mark xs) f
  pub same : Same (mark ws) (mark xs) (other f)
  pub fewer : r ≡ true → missing (mark xs) f g.N < missing (mark ws) f g.N
  pub rest : r ≡ false → xs ≡ ws

-- the fact is not both due and unmarked
abbrev pub Tried : Peg → Marks → Fact → ℕ → Mode → Type 0
Tried g s f e m = due g s f (g.expr e) m ≡ true → s f e m ≡ true

-- bit k of a mask tells whether rule k may match nothing
abbrev pub Mask : Peg → Mode → ℕ → Type 0
Mask g m mask = (k : ℕ) → k < g.R → Tells (bit mask k) (Nullable g m (g.expr (g.body k)))

-- what the check finds of a row, with the work words before and after; the rules that may match nothing come as two masks
pub record Found (ws work after : List ℕ) (on off : ℕ) : Type 0 where
  pub reported : Reported ws (length work) right
  pub accepted : Accepted ws
  pub room : 2 * (meaning ws).N ≤ length work
  pub blank : after ≡ replicate (length work) 0
  pub mask_on : Mask (meaning ws) On on
  pub mask_off : Mask (meaning ws) Off off

pub record Refused (ws work after : List ℕ) (f : FormFault) : Type 0 where
  pub reported : Reported ws (length work) (form_report f)
  pub left : after ≡ fault_left f work

abbrev pub Judged : List ℕ → List ℕ → List ℕ → Result (ℕ × ℕ) FormFault → Type 0
Judged ws work after (Ok rules) = Found ws work after rules.0 rules.1
Judged ws work after (Err f) = Refused ws work after f

-- there is such a rule, and it may match nothing
abbrev pub NullableRule : Peg → Mode → ℕ → Type 0
NullableRule g m r = (r < g.R) × ∥ Nullable g m (g.expr (g.body r)) ∥₁
