-- The rules: what an expression gives at a place of a text, and what a rule-place gives.
use Rattle.std.specs.Prelude.{◌≡◌, ℕ, zero, suc, ◌+◌, ◌^◌, max, Bool, true, false, List, [], ◌∷◌, ◌++◌, Some, None, Option, bit_or}
use Prim.Native.Nat.{compare, Ordering}
use Rattle.grammar.specs.declared.expr.Mode.{Mode}
use Rattle.grammar.specs.declared.expr.Mode.TheVariants.{On, Off}
use Rattle.grammar.specs.declared.expr.Expr.{Expr}
use Rattle.grammar.specs.declared.expr.Expr.TheVariants.{Empty, Terminal, Call, Sequence, Choice, Repetition, Predicate, Throw}
use Rattle.grammar.specs.Words.{Peg}
use Rattle.grammar.specs.Form.{recovers_lem}
use Rattle.peg.specs.declared.results.Outcome.{Outcome}
use Rattle.peg.specs.declared.results.Outcome.TheVariants.{Match, Failure}
use Rattle.peg.specs.declared.results.Note.{Note}
use Rattle.peg.specs.Results.{Recovery, Given}

-- a text, as far as the rules ask it: whether the pair a, b accepts the element at place i
abbrev pub Text : Type 0
Text = ℕ → ℕ → ℕ → Bool

-- an evaluation at place i looks at place i: the first place that it does not look at
abbrev pub looked_at : ℕ → ℕ
looked_at i = i + 1

-- the note of a terminal that fails: its place, with the bit of its mark
abbrev pub expected : ℕ → ℕ → Option Note
expected i c = Some (record { place = i; marks = 2 ^ c })

-- the note of a throw, and of a predicate that fails: its place, with no mark
abbrev pub unmarked : ℕ → Option Note
unmarked i = Some (record { place = i; marks = 0 })

abbrev pub farther : Ordering → Note → Note → Note
farther Ordering.lt x y = y
farther Ordering.eq x y = record { place = x.place; marks = bit_or x.marks y.marks }
farther Ordering.gt x y = x

-- of two notes the one further on stands; notes of one place put their marks together
abbrev pub join : Option Note → Option Note → Option Note
join None n = n
join (Some x) None = Some x
join (Some x) (Some y) = Some (farther (compare x.place y.place) x y)

-- whether a set catches an outcome: a failure with a label of the set
abbrev pub caught : Peg → ℕ → Outcome → Bool
caught g s (Match j) = false
caught g s (Failure l p) = g.catches s l

-- failures have no recoveries
abbrev pub if_matched : Outcome → List Recovery → List Recovery
if_matched (Match j) rs = rs
if_matched (Failure l p) rs = []

-- what a predicate makes of its part: a match becomes label 0 here, label 0 a match of nothing, any other failure stays
abbrev pub denied : ℕ → Outcome → Outcome
denied i (Match j) = Failure 0 i
denied i (Failure zero p) = Match i
denied i (Failure (suc l) p) = Failure (suc l) p

-- a predicate that fails, for either reason, has its own note and none from inside
abbrev pub denied_note : ℕ → Outcome → Option Note
denied_note i (Match j) = unmarked i
denied_note i (Failure zero p) = None
denied_note i (Failure (suc l) p) = unmarked i

-- a throw is recovered where its recovery expression matches: it comes first, with the end of that match
abbrev pub recovered : ℕ → ℕ → Outcome → List Recovery → List Recovery
recovered l i (Match j) rs = record { label = l; place = i; end = j } ∷ rs
recovered l i (Failure k p) rs = []

-- an expression that evaluates no parts
abbrev pub alone : ℕ → Outcome → Option Note → Given
alone i o n = record { outcome = o; note = n; recoveries = []; depth = 1; reach = looked_at i; completed = [] }

-- what a part gave, given by the whole as it is: a part stands one deeper than its whole
abbrev pub one_deeper : Given → Given
one_deeper v = record {
  outcome = v.outcome;
  note = v.note;
  recoveries = v.recoveries;
  depth = suc v.depth;
  reach = v.reach;
  completed = v.completed;
}

-- what a rule-place gives, where its body gives v: the same, and it is completed last
abbrev pub of_rule : ℕ → ℕ → Mode → Given → Given
of_rule r i m v = record {
  outcome = v.outcome;
  note = v.note;
  recoveries = v.recoveries;
  depth = v.depth;
  reach = v.reach;
  completed = v.completed ++ (record { rule = r; place = i; mode = m } ∷ []);
}

-- a sequence, where the first part matched and gave v, and the second gave w
abbrev pub of_sequence : Given → Given → Given
of_sequence v w = record {
  outcome = w.outcome;
  note = join v.note w.note;
  recoveries = if_matched w.outcome (v.recoveries ++ w.recoveries);
  depth = suc (max v.depth w.depth);
  reach = max v.reach w.reach;
  completed = v.completed ++ w.completed;
}

-- a choice, where the first part failed and gave v, and the other gave w
abbrev pub of_other : Given → Given → Given
of_other v w = record {
  outcome = w.outcome;
  note = join v.note w.note;
  recoveries = w.recoveries;
  depth = suc (max v.depth w.depth);
  reach = max v.reach w.reach;
  completed = v.completed ++ w.completed;
}

-- a repetition, where the part failed at once with label 0 and gave v
abbrev pub of_end : ℕ → Given → Given
of_end i v = record {
  outcome = Match i;
  note = v.note;
  recoveries = [];
  depth = suc v.depth;
  reach = v.reach;
  completed = v.completed;
}

-- a repetition, where the part matched and gave v, and the repetition from its end on gave w
abbrev pub of_round : Given → Given → Given
of_round v w = record {
  outcome = w.outcome;
  note = join v.note w.note;
  recoveries = if_matched w.outcome (v.recoveries ++ w.recoveries);
  depth = max (suc v.depth) w.depth;
  reach = max v.reach w.reach;
  completed = v.completed ++ w.completed;
}

-- a predicate, where the part gave v: notes and recoveries inside it are dropped
abbrev pub of_predicate : ℕ → Given → Given
of_predicate i v = record {
  outcome = denied i v.outcome;
  note = denied_note i v.outcome;
  recoveries = [];
  depth = suc v.depth;
  reach = v.reach;
  completed = v.completed;
}

-- a recovered throw of label l, where the recovery expression gave v
abbrev pub of_recovery : ℕ → ℕ → Given → Given
of_recovery l i v = record {
  outcome = v.outcome;
  note = join (unmarked i) v.note;
  recoveries = recovered l i v.outcome v.recoveries;
  depth = suc v.depth;
  reach = v.reach;
  completed = v.completed;
}

-- an expression gives v at place i in mode m, its parts evaluated in order
pub data Gives (g : Peg) (t : Text) : Expr → ℕ → Mode → Given → Type 0 where
  empty_matches : {i : ℕ} {m : Mode} → Gives g t Empty i m (alone i (Match i) None)
  terminal_matches : {a b c i : ℕ} {m : Mode} → t a b i ≡ true → Gives g t (Terminal a b c) i m (alone i (Match (i + 1)) None)
  terminal_fails : {a b c i : ℕ} {m : Mode} → t a b i ≡ false → Gives g t (Terminal a b c) i m (alone i (Failure 0 i) (expected i c))
  call_gives : {r i : ℕ} {m : Mode} {v : Given} → Gives g t (g.expr (g.body r)) i m v → Gives g t (Call r) i m (one_deeper (of_rule r i m v))
  sequence_goes_on : {a b i j : ℕ} {m : Mode} {v w : Given}
      → Gives g t (g.expr a) i m v → v.outcome ≡ Match j → Gives g t (g.expr b) j m w
      → Gives g t (Sequence a b) i m (of_sequence v w)
  sequence_fails : {a b i l p : ℕ} {m : Mode} {v : Given}
      → Gives g t (g.expr a) i m v → v.outcome ≡ Failure l p
      → Gives g t (Sequence a b) i m (one_deeper v)
  choice_stays : {a b s i : ℕ} {m : Mode} {v : Given}
      → Gives g t (g.expr a) i m v → caught g s v.outcome ≡ false
      → Gives g t (Choice a b s) i m (one_deeper v)
  choice_turns : {a b s i : ℕ} {m : Mode} {v w : Given}
      → Gives g t (g.expr a) i m v → caught g s v.outcome ≡ true → Gives g t (g.expr b) i m w
      → Gives g t (Choice a b s) i m (of_other v w)
  repetition_ends : {a i p : ℕ} {m : Mode} {v : Given}
      → Gives g t (g.expr a) i m v → v.outcome ≡ Failure 0 p
      → Gives g t (Repetition a) i m (of_end i v)
  repetition_fails : {a i l p : ℕ} {m : Mode} {v : Given}
      → Gives g t (g.expr a) i m v → v.outcome ≡ Failure (suc l) p
      → Gives g t (Repetition a) i m (one_deeper v)
  repetition_goes_on : {a i j : ℕ} {m : Mode} {v w : Given}
      → Gives g t (g.expr a) i m v → v.outcome ≡ Match j → Gives g t (Repetition a) j m w
      → Gives g t (Repetition a) i m (of_round v w)
  predicate_denies : {a i : ℕ} {m : Mode} {v : Given} → Gives g t (g.expr a) i Off v → Gives g t (Predicate a) i m (of_predicate i v)
  throw_fails : {l i : ℕ} {m : Mode} → recovers_lem g l m ≡ None → Gives g t (Throw l) i m (alone i (Failure l i) (unmarked i))
  throw_recovers : {l e i : ℕ} {m : Mode} {v : Given}
      → recovers_lem g l m ≡ Some e → Gives g t (g.expr e) i On v
      → Gives g t (Throw l) i m (of_recovery l i v)

-- rule r gives w at place i in mode m
pub data RuleGives (g : Peg) (t : Text) : ℕ → ℕ → Mode → Given → Type 0 where
  as_its_body : {r i : ℕ} {m : Mode} {v : Given} → Gives g t (g.expr (g.body r)) i m v → RuleGives g t r i m (of_rule r i m v)

-- a parse is rule 0 in mode on at place 0
abbrev pub Parses : Peg → Text → Given → Type 0
Parses g t v = RuleGives g t 0 0 On v

-- a call gives what the rule gives, one deeper, and nothing else
pub record Calls : Type 0 where
  pub given : (g : Peg) (t : Text) (r i : ℕ) (m : Mode) (v : Given) → RuleGives g t r i m v → Gives g t (Call r) i m (one_deeper v)
  pub only : (g : Peg) (t : Text) (r i : ℕ) (m : Mode) (w : Given) → Gives g t (Call r) i m w → (v : Given) × RuleGives g t r i m v × (w ≡ one_deeper v)

-- no two results: an expression, and a rule, give at most one thing at a place in a mode
pub record AtMostOne : Type 0 where
  pub of_an_expression : (g : Peg) (t : Text) (x : Expr) (i : ℕ) (m : Mode) (v w : Given) → Gives g t x i m v → Gives g t x i m w → v ≡ w
  pub of_a_rule : (g : Peg) (t : Text) (r i : ℕ) (m : Mode) (v w : Given) → RuleGives g t r i m v → RuleGives g t r i m w → v ≡ w
