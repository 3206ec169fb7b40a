-- The questions of the check, in order: the first that is answered no gives its number.
use Rattle.std.specs.Prelude.{◌≡◌, ℕ, zero, suc, ◌+◌, ◌-◌, ◌*◌, ◌%◌, ◌^◌, ◌<◌, ◌≤◌, Bool, true, false, cond, ◌&&◌, ◌⊎◌, List, length, replicate, Ok, Err, Result, ◌==◌, nat_le, nat_lt, slice_index}
use Rattle.grammar.specs.declared.expr.Mode.{Mode}
use Rattle.grammar.specs.declared.expr.Expr.TheVariants.{Repetition}
use Rattle.grammar.specs.declared.fault.Layer.{Layer}
use Rattle.grammar.specs.declared.fault.Layer.TheVariants.{Words, References, Work, Form}
use Rattle.grammar.specs.declared.fault.FormFault.{FormFault}
use Rattle.grammar.specs.declared.fault.FormFault.TheVariants.{Work as ofWork, EmptyRepetition, EndlessWalk}
use Rattle.grammar.specs.declared.part.Part.{Part}
use Rattle.grammar.specs.declared.part.Part.TheVariants.{Header, Rule, Label, Set, Expression}
use Rattle.grammar.specs.Words.{kind, field_a, field_b, field_c, Peg, meaning}
use Rattle.grammar.specs.Form.{Nullable, Endless}
use Rattle.grammar.specs.Faults.{Report, right, wrong}

-- the limits of a row
abbrev pub fewest_words : ℕ
fewest_words = 3

abbrev pub most_words : ℕ
most_words = 1156

abbrev pub most_expressions : ℕ
most_expressions = 1000

abbrev pub most_rules : ℕ
most_rules = 64

abbrev pub most_labels : ℕ
most_labels = 27

abbrev pub most_sets : ℕ
most_sets = 64

abbrev pub highest_mark : ℕ
highest_mark = 31

abbrev pub Between : ℕ → ℕ → ℕ → Type 0
Between low x high = (low ≤ x) × (x ≤ high)

-- there are as many words as a row may have
abbrev pub Counted : List ℕ → Type 0
Counted ws = Between fewest_words (length ws) most_words

-- how many words there are at least: all but the sets
abbrev pub least_words : Peg → ℕ
least_words g = 1 + g.R + g.L + g.N

-- the first word is a header, and its numbers leave a right number of sets
abbrev pub Headed : List ℕ → Type 0
Headed ws =
    (kind (slice_index ws 0) ≡ 8)
    × (Between 1 (meaning ws).N most_expressions)
    × ((Between 1 (meaning ws).R most_rules)
    × ((meaning ws).L ≤ most_labels)
    × Between (least_words (meaning ws)) (length ws) (least_words (meaning ws) + most_sets))

-- what word w is: the header, then rules, labels, sets and expressions
abbrev pub part_of : Peg → ℕ → Part
part_of g w =
    cond (nat_le w 0) Header
    (cond (nat_le w g.R) Rule
    (cond (nat_le w (g.R + g.L)) Label
    (cond (nat_le w (g.R + g.L + g.S)) Set
    (Expression (w - (1 + g.R + g.L + g.S))))))

abbrev pub is_zero : ℕ → Bool
is_zero x = x == 0

-- an expression's fields without a meaning are zero, and a mark is one of 32
abbrev pub formed_kind : ℕ → ℕ → ℕ → ℕ → Bool
formed_kind zero a b c = is_zero a && (is_zero b && is_zero c)
formed_kind (suc zero) a b c = nat_le c highest_mark
formed_kind (suc (suc zero)) a b c = is_zero b && is_zero c
formed_kind (suc (suc (suc zero))) a b c = is_zero c
formed_kind (suc (suc (suc (suc zero)))) a b c = true
formed_kind (suc (suc (suc (suc (suc zero))))) a b c = is_zero b && is_zero c
formed_kind (suc (suc (suc (suc (suc (suc zero)))))) a b c = is_zero b && is_zero c
formed_kind (suc (suc (suc (suc (suc (suc (suc zero))))))) a b c = is_zero b && is_zero c
formed_kind (suc (suc (suc (suc (suc (suc (suc (suc n)))))))) a b c = false

-- a label's b says whether it has a recovery expression, and without one its a is zero
abbrev pub formed_label : ℕ → ℕ → Bool
formed_label zero a = is_zero a
formed_label (suc zero) a = true
formed_label (suc (suc b)) a = false

-- whether a word has its part's kind, zeros and ranges, among l labels
abbrev pub formed_as : Part → ℕ → ℕ → Bool
formed_as Header l w = true
formed_as Rule l w = kind w == 9 && (is_zero (field_b w) && is_zero (field_c w))
formed_as Label l w = kind w == 10 && (is_zero (field_c w) && formed_label (field_b w) (field_a w))
formed_as Set l w = kind w == 11 && nat_lt (w % 2 ^ 28) (2 ^ (l + 1))
formed_as (Expression e) l w = formed_kind (kind w) (field_a w) (field_b w) (field_c w)

-- what expression e names is there, and its operands are lower
abbrev pub named_kind : Peg → ℕ → ℕ → ℕ → ℕ → ℕ → Bool
named_kind g e zero a b c = true
named_kind g e (suc zero) a b c = true
named_kind g e (suc (suc zero)) a b c = nat_lt a g.R
named_kind g e (suc (suc (suc zero))) a b c = nat_lt a e && nat_lt b e
named_kind g e (suc (suc (suc (suc zero)))) a b c = nat_lt a e && (nat_lt b e && nat_lt c g.S)
named_kind g e (suc (suc (suc (suc (suc zero))))) a b c = nat_lt a e
named_kind g e (suc (suc (suc (suc (suc (suc zero)))))) a b c = nat_lt a e
named_kind g e (suc (suc (suc (suc (suc (suc (suc n))))))) a b c = nat_le 1 a && nat_le a g.L

abbrev pub named_recovery : Peg → ℕ → ℕ → Bool
named_recovery g zero a = true
named_recovery g (suc b) a = nat_lt a g.N

-- whether what a word names is there
abbrev pub named_as : Peg → Part → ℕ → Bool
named_as g Header w = true
named_as g Rule w = nat_lt (field_a w) g.N
named_as g Label w = named_recovery g (field_b w) (field_a w)
named_as g Set w = true
named_as g (Expression e) w = named_kind g e (kind w) (field_a w) (field_b w) (field_c w)

abbrev pub formed : List ℕ → ℕ → Bool
formed ws w = formed_as (part_of (meaning ws) w) (meaning ws).L (slice_index ws w)

abbrev pub named : List ℕ → ℕ → Bool
named ws w = named_as (meaning ws) (part_of (meaning ws) w) (slice_index ws w)

-- the word of expression e
abbrev pub word_of : List ℕ → ℕ → ℕ
word_of ws e = length ws - (meaning ws).N + e

-- the words at which a question is answered no
abbrev pub Miscounted : List ℕ → ℕ → Type 0
Miscounted ws w = (w ≡ 0) × (Counted ws → ⊥)

abbrev pub Misheaded : List ℕ → ℕ → Type 0
Misheaded ws w = (w ≡ 0) × (Headed ws → ⊥)

abbrev pub Misformed : List ℕ → ℕ → Type 0
Misformed ws w = (w < length ws) × (formed ws w ≡ false)

abbrev pub Misnamed : List ℕ → ℕ → Type 0
Misnamed ws w = (w < length ws) × (named ws w ≡ false)

abbrev pub ShortOfWork : List ℕ → ℕ → ℕ → Type 0
ShortOfWork ws lent w = (w ≡ 0) × (lent < 2 * (meaning ws).N)

-- a repetition whose part may match nothing, in either mode
pub record HollowAt (g : Peg) (e : ℕ) : Type 0 where
  pub part : ℕ
  pub mode : Mode
  pub repeats : g.expr e ≡ Repetition part
  pub nullable : Nullable g mode (g.expr part)

-- the word of an expression at fault
abbrev pub WordAtFault : List ℕ → (ℕ → Type 0) → ℕ → Type 0
WordAtFault ws No w = (e : ℕ) × (e < (meaning ws).N) × (w ≡ word_of ws e) × No e

abbrev pub Hollow : List ℕ → ℕ → Type 0
Hollow ws = WordAtFault ws (HollowAt (meaning ws))

-- an expression from which some walk to leading parts is endless, in either mode
abbrev pub EndlessAt : Peg → ℕ → Type 0
EndlessAt g e = (m : Mode) × Endless g e m

abbrev pub Unending : List ℕ → ℕ → Type 0
Unending ws = WordAtFault ws (EndlessAt (meaning ws))

-- a question is answered yes: no word is at fault
abbrev pub Never : (ℕ → Type 0) → Type 0
Never No = (w : ℕ) → No w → ⊥

-- w is the lowest word at fault
pub record Lowest (No : ℕ → Type 0) (w : ℕ) : Type 0 where
  pub no : No w
  pub below : (k : ℕ) → k < w → No k → ⊥

-- one question, and the others after it
abbrev pub Asks : ℕ → Layer → (ℕ → Type 0) → (Report → Type 0) → Report → Type 0
Asks number layer No Others t = ((w : ℕ) × Lowest No w × (t ≡ wrong number layer w)) ⊎ (Never No × Others t)

-- the questions of each layer, and what is asked after them
abbrev pub AsksWords : List ℕ → (Report → Type 0) → Report → Type 0
AsksWords ws Others = Asks 1 Words (Miscounted ws) (Asks 2 Words (Misheaded ws) (Asks 3 Words (Misformed ws) Others))

abbrev pub AsksReferences : List ℕ → (Report → Type 0) → Report → Type 0
AsksReferences ws Others = Asks 4 References (Misnamed ws) Others

abbrev pub AsksWork : List ℕ → ℕ → (Report → Type 0) → Report → Type 0
AsksWork ws lent Others = Asks 5 Work (ShortOfWork ws lent) Others

abbrev pub AsksForm : List ℕ → (Report → Type 0) → Report → Type 0
AsksForm ws Others = Asks 6 Form (Hollow ws) (Asks 7 Form (Unending ws) Others)

-- what the check of a row reports, with so many work words lent
abbrev pub Reported : List ℕ → ℕ → Report → Type 0
Reported ws lent = AsksWords ws (AsksReferences ws (AsksWork ws lent (AsksForm ws (λ t. t ≡ right))))

-- the row by itself is a well-formed grammar
abbrev pub Accepted : List ℕ → Type 0
Accepted ws = Counted ws × Headed ws × Never (Misformed ws) × Never (Misnamed ws) × Never (Hollow ws) × Never (Unending ws)

-- a test tells whether a fact holds
abbrev pub Tells : Bool → Type 0 → Type 0
Tells b P = (b ≡ true → P) × (b ≡ false → P → ⊥)

-- what is known once a layer has nothing to say
abbrev pub WordsPass : List ℕ → Type 0
WordsPass ws = Counted ws × Headed ws × Never (Misformed ws)

abbrev pub ReferencesPass : List ℕ → Type 0
ReferencesPass ws = WordsPass ws × Never (Misnamed ws)

abbrev pub WorkPasses : List ℕ → ℕ → Type 0
WorkPasses ws lent = ReferencesPass ws × (2 * (meaning ws).N ≤ lent)

-- a layer's fault is the first no among its questions and those before
abbrev pub NoMore : Report → Type 0
NoMore t = ⊥

abbrev pub WordsFail : List ℕ → Report → Type 0
WordsFail ws = AsksWords ws NoMore

abbrev pub ReferencesFail : List ℕ → Report → Type 0
ReferencesFail ws = AsksWords ws (AsksReferences ws NoMore)

abbrev pub FormPasses : List ℕ → Type 0
FormPasses ws = Never (Hollow ws) × Never (Unending ws)

abbrev pub FormFails : List ℕ → Report → Type 0
FormFails ws = AsksForm ws NoMore

abbrev pub WorkFails : List ℕ → ℕ → Report → Type 0
WorkFails ws lent = AsksWords ws (AsksReferences ws (AsksWork ws lent NoMore))

-- what the check leaves in the work words: nothing is written before the grammar's form is asked about, and zeros stand after
abbrev pub fault_left : FormFault → List ℕ → List ℕ
fault_left (ofWork f) ws = ws
fault_left (EmptyRepetition w) ws = replicate (length ws) 0
fault_left (EndlessWalk w) ws = replicate (length ws) 0

abbrev pub work_left : {A : Type 0} → Result A FormFault → List ℕ → List ℕ
work_left (Ok x) ws = replicate (length ws) 0
work_left (Err f) ws = fault_left f ws
