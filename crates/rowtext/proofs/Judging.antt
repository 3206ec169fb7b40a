-- A row has one right verdict, a line one right answer, an input one account.
use Rattle.std.proofs.Common.{◌≡◌, ℕ, List, ◌∷◌, ◌++◌, Some, None, Ok, Err, Option, Result, MatchOption, IsSomeAnd, sym, refl, ap, ◌∙◌, subst, inl, inr, arith}
use Rattle.grammar.specs.declared.fault.FormFault.{FormFault}
use Rattle.grammar.specs.declared.fault.Layer.{Layer}
use Rattle.grammar.specs.declared.fault.Layer.TheVariants.{Words, References, Form}
use Rattle.grammar.specs.declared.fault.Place.{Place}
use Rattle.grammar.specs.Faults.{Report, right, wrong, form_report}
use Rattle.grammar.specs.Questions.{Reported, Never, Asks, AsksWork, Miscounted, Misheaded, Misformed, Misnamed, Hollow, Unending}
use Rattle.grammar.proofs.Reporting.{exactly}
use Rattle.rowtext.specs.declared.answer.Answer.{Answer}
use Rattle.rowtext.specs.declared.verdict.Verdict.{Verdict}
use Rattle.rowtext.specs.declared.verdict.Counts.{Counts}
use Rattle.rowtext.specs.Verdicts.{place_report, Refuses, lent, Judged, RefusedBy}
use Rattle.std.specs.Option.{option_map}
use Rattle.rowtext.specs.Rows.{RowOf}
use Rattle.rowtext.specs.Answers.{Answered, as_line}
use Rattle.rowtext.specs.Accounts.{EachAnswered, none, more, answers_text, total, Accounted}
use Rattle.rowtext.proofs.Reading.{writes_one}

judged_place : (ws : List ℕ) (f : FormFault) (r : Result Counts Place) → Refuses f (record { 0 = r }) → Reported ws lent (form_report f) → Judged ws (record { 0 = r })
judged_place ws f (Ok n) h told = absurd h
judged_place ws f (Err p) h told = subst (Reported ws lent) (sym h) told

pub judged_refused : (ws : List ℕ) (f : FormFault) (v : Verdict) → Refuses f v → Reported ws lent (form_report f) → Judged ws v
judged_refused ws f v = judged_place ws f v.0

same_place : (p q : Place) → place_report p ≡ place_report q → p ≡ q
same_place p q e =
    let n : p.number ≡ q.number = cc in
    let l : p.layer ≡ q.layer = cc in
    let w : p.word ≡ q.word = cc in
    λ i. record { number = n i; layer = l i; word = w i }

not_both : (ws : List ℕ) (p : Place) → Reported ws lent right → Reported ws lent (place_report p) → ⊥
not_both ws p h k = let e = (exactly ws lent right h (place_report p)).1 k in cc

result_one : (ws : List ℕ) (q r : Result Counts Place) → Judged ws (record { 0 = q }) → Judged ws (record { 0 = r }) → q ≡ r
result_one ws (Ok n) (Ok m) h j = ap Ok (h.1 ∙ sym j.1)
result_one ws (Ok n) (Err p) h j = absurd (not_both ws p h.0 j)
result_one ws (Err p) (Ok n) h j = absurd (not_both ws p j.0 h)
result_one ws (Err p) (Err q) h j = ap Err (same_place p q ((exactly ws lent (place_report p) h (place_report q)).1 j))

pub judged_one : (ws : List ℕ) (u v : Verdict) → Judged ws u → Judged ws v → u ≡ v
judged_one ws u v h j = let same = result_one ws u.0 v.0 h j in λ i. record { 0 = same i }

abbrev number_of : Report → ℕ
number_of right = 0
number_of (wrong number layer word) = number

-- a question of another number was answered yes
past :
    (number k : ℕ) (layer : Layer) (No : ℕ → Type 0) (Others : Report → Type 0) (t : Report) → (number ≡ k → ⊥) → number_of t ≡ k → Asks number layer No Others t
    → Never No × Others t
past number k layer No Others t other e h =
    elim h [ inl found ↦ absurd (other (ap number_of (sym found.2) ∙ e)) | inr passed ↦ passed ]

-- with so much work lent, the check never lacks it
roomy : (ws : List ℕ) (t : Report) → number_of t ≡ 5 → Reported ws lent t → ⊥
roomy ws t e h =
    let Seven : Report → Type 0 = Asks 7 Form (Unending ws) (λ u. u ≡ right) in
    let Six : Report → Type 0 = Asks 6 Form (Hollow ws) Seven in
    let Five : Report → Type 0 = AsksWork ws lent Six in
    let Four : Report → Type 0 = Asks 4 References (Misnamed ws) Five in
    let Three : Report → Type 0 = Asks 3 Words (Misformed ws) Four in
    let Two : Report → Type 0 = Asks 2 Words (Misheaded ws) Three in
    let one = past 1 5 Words (Miscounted ws) Two t (λ q. omega arith) e h in
    let two = past 2 5 Words (Misheaded ws) Three t (λ q. omega arith) e one.1 in
    let three = past 3 5 Words (Misformed ws) Four t (λ q. omega arith) e two.1 in
    let four = past 4 5 References (Misnamed ws) Five t (λ q. omega arith) e three.1 in
    elim four.1 [
      | inl found ↦ two.0 0 (refl, λ headed. omega (arith, headed.1.1, found.1.no.1))
      | inr passed ↦
          let six = past 6 5 Form (Hollow ws) Seven t (λ q. omega arith) e passed.1 in
          let seven = past 7 5 Form (Unending ws) (λ u. u ≡ right) t (λ q. omega arith) e six.1 in
          omega (arith, ap number_of (sym seven.1) ∙ e)
    ]

refused_short : (ws : List ℕ) (r : Result Counts Place) → Judged ws (record { 0 = r }) → RefusedBy 5 (record { 0 = r }) → ⊥
refused_short ws (Ok n) h five = five
refused_short ws (Err p) h five = roomy ws (place_report p) five h

pub never_short : (ws : List ℕ) (v : Verdict) → Judged ws v → RefusedBy 5 v → ⊥
never_short ws v = refused_short ws v.0

option_one : (line : List ℕ) (a b : Option Verdict) → Answered line (record { 0 = a }) → Answered line (record { 0 = b }) → a ≡ b
option_one line (Some u) (Some v) h j = ap Some (judged_one h.0 u v h.2 (subst (λ ws. Judged ws v) (writes_one j.1 h.1) j.2))
option_one line (Some u) None h j = absurd (j h.0 h.1)
option_one line None (Some v) h j = absurd (h j.0 j.1)
option_one line None None h j = refl

pub answered_one : (line : List ℕ) (a b : Answer) → Answered line a → Answered line b → a ≡ b
answered_one line a b h j = let same = option_one line a.0 b.0 h j in λ i. record { 0 = same i }

each_one : {ls : List (List ℕ)} {us vs : List Answer} → EachAnswered ls us → EachAnswered ls vs → us ≡ vs
each_one none none = refl
each_one (more {line} {a = a} h hs) (more {a = b} j js) = (λ i. answered_one line a b h j i ∷ each_one hs js i)

pub accounted_one : {input : List ℕ} (one two : List ℕ) → Accounted input one → Accounted input two → one ≡ two
accounted_one one two h j = h.text ∙ ap (λ answers. answers_text 1 answers ++ as_line (total answers)) (each_one h.each j.each) ∙ sym j.text

-- a line that was read, and its row judged
pub answered_as :
    {W : Type 0} (line : List ℕ) (items : W → List ℕ) (row : Option W) (a : Option Verdict) (Said : W → Verdict → Type 0) → RowOf line (option_map items row)
    → MatchOption row (a ≡ None) (λ w. IsSomeAnd a (Said w)) → ((w : W) (v : Verdict) → Said w v → Judged (items w) v) → Answered line (record { 0 = a })
answered_as line items None a Said read h judged = subst (λ (o : Option Verdict). Answered line (record { 0 = o })) (sym h) read
answered_as line items (Some w) None Said read h judged = absurd h
answered_as line items (Some w) (Some v) Said read h judged = (items w, (read (items w)).0 refl, judged w v h)
