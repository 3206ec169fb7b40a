-- A grammar's row of words, and what it means.
use Rattle.std.specs.Prelude.{ℕ, zero, suc, ◌+◌, ◌-◌, ◌/◌, ◌%◌, ◌^◌, Bool, List, length, Some, None, Option, ◌==◌, slice_index, slice_index_or}
use Rattle.grammar.specs.declared.expr.Expr.{Expr}
use Rattle.grammar.specs.declared.expr.Expr.TheVariants.{Empty, Terminal, Call, Sequence, Choice, Repetition, Predicate, Throw}

-- bits 31 to 28
abbrev pub kind : ℕ → ℕ
kind w = w / 2 ^ 28

-- bits 27 to 18
abbrev pub field_a : ℕ → ℕ
field_a w = w / 2 ^ 18 % 2 ^ 10

-- bits 17 to 8
abbrev pub field_b : ℕ → ℕ
field_b w = w / 2 ^ 8 % 2 ^ 10

-- bits 7 to 0
abbrev pub field_c : ℕ → ℕ
field_c w = w % 2 ^ 8

-- bit l of a set of labels or marks
abbrev pub bit : ℕ → ℕ → Bool
bit w l = w / 2 ^ l % 2 == 1

-- kinds 0 to 7, with the three fields; a higher kind is no expression's
abbrev pub of_kind : ℕ → ℕ → ℕ → ℕ → Expr
of_kind zero a b c = Empty
of_kind (suc zero) a b c = Terminal a b c
of_kind (suc (suc zero)) a b c = Call a
of_kind (suc (suc (suc zero))) a b c = Sequence a b
of_kind (suc (suc (suc (suc zero)))) a b c = Choice a b c
of_kind (suc (suc (suc (suc (suc zero))))) a b c = Repetition a
of_kind (suc (suc (suc (suc (suc (suc zero)))))) a b c = Predicate a
of_kind (suc (suc (suc (suc (suc (suc (suc n))))))) a b c = Throw a

-- the expression that a word stands for
abbrev pub expression : ℕ → Expr
expression w = of_kind (kind w) (field_a w) (field_b w) (field_c w)

abbrev pub recovery_by : ℕ → ℕ → Option ℕ
recovery_by zero a = None
recovery_by (suc b) a = Some a

-- the recovery expression of a label's word, if it has one
abbrev pub recovery_of : ℕ → Option ℕ
recovery_of w = recovery_by (field_b w) (field_a w)

-- what a grammar means
pub record Peg : Type 0 where
  -- the numbers of expressions, rules, labels and sets
  pub N : ℕ
  pub R : ℕ
  pub L : ℕ
  pub S : ℕ
  -- the body of a rule
  pub body : ℕ → ℕ
  -- the recovery expression of a label
  pub recovery : ℕ → Option ℕ
  -- whether a set holds a label
  pub catches : ℕ → ℕ → Bool
  -- an expression by its number
  pub expr : ℕ → Expr

-- header, rules, labels from 1 on, sets, expressions
abbrev pub meaning : List ℕ → Peg
meaning ws =
    let h : ℕ = slice_index_or ws 0 0 in
    let n : ℕ = field_a h in
    let r : ℕ = field_b h in
    let l : ℕ = field_c h in
    record {
      N = n;
      R = r;
      L = l;
      S = length ws - (1 + r + l + n);
      body = λ k. field_a (slice_index ws (1 + k));
      recovery = λ k. recovery_of (slice_index ws (r + k));
      catches = λ s k. bit (slice_index ws (1 + r + l + s)) k;
      expr = λ e. expression (slice_index ws (length ws - n + e));
    }
