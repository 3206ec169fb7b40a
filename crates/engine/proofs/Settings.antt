-- An accepted grammar and a text make a setting that the engine can go by.
use Rattle.std.proofs.Common.{◌≡◌, ℕ, ◌<◌, ◌≤◌, Bool, true, List, length, Err, Result, sym, subst, inl, inr, arith}
use Rattle.std.proofs.lemmas.Bool.{both_ways, cases_lt}
use Rattle.grammar.specs.declared.accepted.Grammar.{Grammar}
use Rattle.grammar.specs.declared.expr.Expr.TheVariants.{Throw}
use Rattle.grammar.specs.Words.{meaning}
use Rattle.grammar.specs.Questions.{Accepted}
use Rattle.grammar.proofs.Referring.{accepted_whole, accepted_solid, accepted_labels, accepted_most_labels, accepted_marks}
use Rattle.text.specs.Meaning.{accepted}
use Rattle.text.proofs.Laws.{accepted_past}
use Rattle.memo.specs.Tables.{Table}
use Rattle.grammar.specs.declared.expr.Mode.TheVariants.{On}
use Rattle.reading.specs.declared.refusal.Refusal.{Refusal}
use Rattle.reading.specs.declared.refusal.Refusal.TheVariants.{Uncovered}
use Rattle.reading.specs.declared.reply.Answer.{Answer}
use Rattle.reading.specs.Reads.{Setting, setting, Store, store, Res, rule, Reads}
use Rattle.reading.specs.Replies.{Covers, answer_of, Replies, uncovered, covered}
use Rattle.reading.specs.declared.reply.Reply.{Reply}
use Rattle.reading.specs.Promises.{Promised}
use Rattle.reading.proofs.Promises.{promised}
use Rattle.reading.proofs.Truth.{proper, some_rule}
use Rattle.engine.specs.declared.step.Ask.{Ask}
use Rattle.engine.specs.Machine.{Sane}
use Rattle.engine.proofs.Entering.{Begins}

-- what an accepted grammar is: its row passed every question
pub accepted_of : (g : Grammar) → Accepted g.words.now
accepted_of g = (g.counted, g.headed, g.formed, g.named, g.solid, g.ending)

inside : {E : Type 0} (fits : ℕ → ℕ → E → Bool) (xs : List E) (a b i : ℕ) → accepted fits xs a b i ≡ true → i < length xs
inside fits xs a b i t = elim (cases_lt i (length xs)) [
  | inl l ↦ l
  | inr l ↦ absurd (both_ways _ (accepted_past fits xs a b i l) t)
]

-- a throw's label is a byte
pub accepted_label : (g : Grammar) {e l : ℕ} → e < (meaning g.words.now).N → (meaning g.words.now).expr e ≡ Throw l → l < 256
accepted_label g {e} {l} n p =
    let h = accepted_labels g.words.now (accepted_of g) e l n p in
    let m = accepted_most_labels g.words.now (accepted_of g) in
    omega arith

pub sane : {E : Type 0} (g : Grammar) (fits : ℕ → ℕ → E → Bool) (xs : List E) (n k : ℕ) (keeps : Bool) (P Q : ℕ) → n ≡ length xs → n ≤ 65535 → Sane (setting (meaning g.words.now) fits xs k keeps P Q)
sane g fits xs n k keeps P Q whole small =
    let ws : List ℕ = g.words.now in
    let ok : Accepted ws = accepted_of g in
    record {
      whole = accepted_whole ws ok;
      solid = accepted_solid ws ok;
      marks = λ e a b c l p. let h = accepted_marks ws ok e a b c l p in omega arith;
      labels = λ e l n p. accepted_label g n p;
      inside = inside fits xs;
      small = omega arith;
    }

-- below the scene's frames an expression of the grammar may begin
pub begins : {E : Type 0} (g : Grammar) (fits : ℕ → ℕ → E → Bool) (xs : List E) (n k : ℕ) (keeps : Bool) (P Q : ℕ) {h : ℕ} {ask : Ask} → n ≡ length xs → n ≤ 65535
    → h < k → ask.expression < (meaning g.words.now).N → ask.place ≤ n → Begins (setting (meaning g.words.now) fits xs k keeps P Q) h ask
begins g fits xs n k keeps P Q whole small level known place =
    record { sane = sane g fits xs n k keeps P Q whole small; level = level; known = known; place = omega arith }

-- question 8 is answered yes, from the numbers that the code compares
pub covers_as : (G : Setting) (cap p c q r : ℕ) → p ≡ G.P → c ≡ cap → q ≡ G.Q → r ≡ G.grammar.R → (c < p) × (r ≤ q) → Covers G cap
covers_as G cap p c q r ep ec eq er yes8 = let a = yes8.0 in let b = yes8.1 in (omega arith, omega arith)

module _ (G : Setting) (cap : ℕ) (T : Table) (p c q r : ℕ) (ep : p ≡ G.P) (ec : c ≡ cap) (eq : q ≡ G.Q) (er : r ≡ G.grammar.R) where
  -- question 8, from the numbers that the code compares
  pub uncovered_as : ((c < p) × (r ≤ q) → ⊥) → Replies G cap T (record { result = Err Uncovered; fresh = 0 }) T
  uncovered_as no8 = uncovered (λ h. no8 (let a = h.0 in omega arith, let b = h.1 in omega arith))

  pub covered_as : (c < p) × (r ≤ q) → (res : Res) (U : Store) (x : Result Answer Refusal) → x ≡ answer_of res → Reads G 0 (store T 0) (rule 0) 0 On res U → Replies G cap T (record { result = x; fresh = U.fresh }) U.rows
  covered_as yes8 res U x e reads =
      let a = yes8.0 in
      let b = yes8.1 in
      subst (λ (y : Result Answer Refusal). Replies G cap T (record { result = y; fresh = U.fresh }) U.rows) (sym e) (covered (omega arith, omega arith) reads)

-- a reading by an accepted row keeps its promises
pub promised_of : {E : Type 0} (g : Grammar) (fits : ℕ → ℕ → E → Bool) (xs : List E) (k : ℕ) (keeps : Bool) (P Q cap : ℕ) (T U : Table) (q : Reply)
    → Replies (setting (meaning g.words.now) fits xs k keeps P Q) cap T q U → Promised (setting (meaning g.words.now) fits xs k keeps P Q) cap T q U
promised_of {E} g fits xs k keeps P Q cap T U q =
    promised (setting (meaning g.words.now) fits xs k keeps P Q) (proper E g.words.now (accepted_of g) fits xs k keeps P Q) (some_rule g.words.now (accepted_of g)) cap T U q
