-- An account, line by line: the answers so far, and then those of what is left.
use Rattle.std.proofs.Common.{◌≡◌, ℕ, ◌+◌, ◌<◌, ◌≤◌, Bool, true, false, cond, List, [], ◌∷◌, ◌++◌, length, None, codes, decimal, count_by, sym, refl, ap, ◌∙◌, subst, append_assoc, append-nil, add-zero, arith}
use mir.Val.{bool_byte}
use Rattle.std.proofs.lemmas.List.{length_push}
use Rattle.std.proofs.lemmas.List.Sums.{sum_by_push}
use Rattle.rowtext.specs.declared.answer.Answer.{Answer}
use Rattle.rowtext.specs.Answers.{Answered, is_row, is_accepted_lem, said, newline, as_line}
use Rattle.rowtext.specs.Accounts.{EachAnswered, none, more, lines, answers_text, total, Accounted}

byte_is : (b : Bool) → bool_byte b ≡ cond b 1 0
byte_is true = refl
byte_is false = refl

-- the texts as `format!` gives them, piece by piece
pub not_row_line : (line : ℕ) → codes "line " ++ (decimal line ++ (codes ": not a row of words" ++ (newline ∷ []))) ≡ as_line (said line (record { 0 = None }))
not_row_line line = ap (λ bs. codes "line " ++ bs) (sym (append_assoc (decimal line) (codes ": not a row of words") (newline ∷ [])))

pub total_line :
    (answers : List Answer) (rows accepted : ℕ) → rows ≡ count_by is_row answers → accepted ≡ count_by is_accepted_lem answers
    → codes "rows " ++ (decimal rows ++ (codes " accepted " ++ (decimal accepted ++ (newline ∷ [])))) ≡ as_line (total answers)
total_line answers rows accepted r a =
    (λ i. codes "rows " ++ (decimal (r i) ++ (codes " accepted " ++ (decimal (a i) ++ (newline ∷ [])))))
    ∙ ap (λ bs. codes "rows " ++ bs) (sym (append_assoc (decimal (count_by is_row answers)) (codes " accepted " ++ decimal (count_by is_accepted_lem answers)) (newline ∷ [])))

-- what is written of a line
abbrev pub line_text : ℕ → Answer → List ℕ
line_text line a = as_line (said line a)

text_push : (line : ℕ) (answers : List Answer) (a : Answer) → answers_text line (answers ++ a ∷ []) ≡ answers_text line answers ++ line_text (line + length answers) a
text_push line [] a = append-nil (line_text line a) ∙ ap (λ n. line_text n a) (sym (add-zero line))
text_push line (r ∷ rest) a =
    let place : line + 1 + length rest ≡ line + length (r ∷ rest) = omega arith in
    ap (λ bs. line_text line r ++ bs) (text_push (line + 1) rest a ∙ ap (λ n. answers_text (line + 1) rest ++ line_text n a) place)
    ∙ sym (append_assoc (line_text line r) (answers_text (line + 1) rest) (line_text (line + length (r ∷ rest)) a))

-- the loop's invariant: what was written and counted before what is left
pub record Sofar (input left text : List ℕ) (count rows accepted : ℕ) : Type 0 where
  pub answers : List Answer
  pub each : (others : List Answer) → EachAnswered (lines left) others → EachAnswered (lines input) (answers ++ others)
  pub written : text ≡ answers_text 1 answers
  pub counted : count ≡ length answers
  pub rowed : rows ≡ count_by is_row answers
  pub passed : accepted ≡ count_by is_accepted_lem answers
  pub few : length answers + length left ≤ length input

module _ {input left text : List ℕ} {count rows accepted : ℕ} (old : Sofar input left text count rows accepted) where
  tally : (p : Answer → Bool) (a : Answer) (b : Bool) (n by : ℕ) → n ≡ count_by p old.answers → b ≡ p a → by ≡ bool_byte b → n + by ≡ count_by p (old.answers ++ a ∷ [])
  tally p a b n by e same one =
      let step = sum_by_push (λ x. cond (p x) 1 0) old.answers a in
      let size : by ≡ cond (p a) 1 0 = one ∙ byte_is b ∙ ap (λ t. cond t 1 0) same in
      omega (arith, e, size, step)

  -- the next line, its answer, and what was written and counted of it
  module _ (line next new : List ℕ) (a : Answer) (row pass : Bool) (by_Row by-pass : ℕ) where
    pub one_more :
        lines left ≡ line ∷ lines next → length next < length left → Answered line a → new ≡ text ++ line_text (count + 1) a → row ≡ is_row a → by_Row ≡ bool_byte row
        → pass ≡ is_accepted_lem a → by-pass ≡ bool_byte pass → Sofar input next new (count + 1) (rows + by_Row) (accepted + by-pass)
    one_more cut shorter answered e row_is by-row-is pass-is by-pass-is = record {
      answers = old.answers ++ a ∷ [];
      each = λ others h.
          subst (EachAnswered (lines input)) (sym (append_assoc old.answers (a ∷ []) others))
          (old.each (a ∷ others) (subst (λ ls. EachAnswered ls (a ∷ others)) (sym cut) (more answered h)));
      written =
          e ∙ ap (λ bs. bs ++ line_text (count + 1) a) old.written
          ∙ ap (λ n. answers_text 1 old.answers ++ line_text n a) (omega (arith, old.counted))
          ∙ sym (text_push 1 old.answers a);
      counted = omega (arith, old.counted, length_push old.answers a);
      rowed = tally is_row a row rows by_Row old.rowed row_is by-row-is;
      passed = tally is_accepted_lem a pass accepted by-pass old.passed pass-is by-pass-is;
      few = omega (arith, old.few, length_push old.answers a);
    }

  -- nothing is left, and the sum is written
  pub closed : (output : List ℕ) → lines left ≡ [] → output ≡ text ++ as_line (total old.answers) → Accounted input output
  closed output empty e = record {
    answers = old.answers;
    each = subst (EachAnswered (lines input)) (append-nil old.answers) (old.each [] (subst (λ ls. EachAnswered ls []) (sym empty) none));
    text = e ∙ ap (λ bs. bs ++ as_line (total old.answers)) old.written;
  }
