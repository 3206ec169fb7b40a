-- Where every word names only what is there, all that the grammar refers to exists.
use Rattle.std.proofs.Common.{◌≡◌, ℕ, zero, suc, ◌+◌, ◌-◌, ◌<◌, ◌≤◌, true, ◌&&◌, ltb, leb, List, length, get_or, Some, sym, refl, ap, ◌∙◌, inl, inr, arith}
use Rattle.std.proofs.lemmas.Bool.{cases_Bool, and_parts, ltb-true, leb-true, le-leb, lt-leb}
use Rattle.grammar.specs.declared.expr.Expr.TheVariants.{Terminal, Throw}
use Rattle.grammar.specs.declared.part.Part.{Part}
use Rattle.grammar.specs.declared.references.WholeRow.{WholeRow}
use Rattle.grammar.specs.declared.part.Part.TheVariants.{Rule, Label, Expression}
use Rattle.grammar.specs.Words.{kind, field_a, field_b, field_c, of_kind, recovery_by, Peg, meaning}
use Rattle.grammar.specs.Form.{Refers, Whole, Solid, Ending}
use Rattle.grammar.specs.Questions.{part_of, most_labels, highest_mark, formed_kind, formed_as, formed, named_kind, named_recovery, named_as, named, word_of, ReferencesPass, Accepted}

-- which part a word is

pub part_rule : (g : Peg) (r : ℕ) → r < g.R → part_of g (1 + r) ≡ Rule
part_rule g r l = rw (lt-leb (1 + r) 0 (omega arith), le-leb (1 + r) g.R (omega arith))

pub part_label : (g : Peg) (l : ℕ) → 1 ≤ l → l ≤ g.L → part_of g (g.R + l) ≡ Label
part_label g l low high =
    rw (lt-leb (g.R + l) 0 (omega arith), lt-leb (g.R + l) g.R (omega arith), le-leb (g.R + l) (g.R + g.L) (omega arith))

pub part_expression : (g : Peg) (e : ℕ) → part_of g (1 + g.R + g.L + g.S + e) ≡ Expression e
part_expression g e =
    let w : ℕ = 1 + g.R + g.L + g.S + e in
    let back : (1 + g.R + g.L + g.S + e) - (1 + g.R + g.L + g.S) ≡ e = omega arith in
    rw (
      lt-leb (1 + g.R + g.L + g.S + e) 0 (omega arith),
      lt-leb (1 + g.R + g.L + g.S + e) g.R (omega arith),
      lt-leb (1 + g.R + g.L + g.S + e) (g.R + g.L) (omega arith),
      lt-leb (1 + g.R + g.L + g.S + e) (g.R + g.L + g.S) (omega arith),
      back,
    )

-- what an expression's fields name
named_refers : (g : Peg) → ((l e : ℕ) → 1 ≤ l → l ≤ g.L → g.recovery l ≡ Some e → e < g.N) → (e : ℕ) → e < g.N → (k a b c : ℕ) → named_kind g e k a b c ≡ true → Refers g (of_kind k a b c)
named_refers g labels e low zero a b c t = tt
named_refers g labels e low (suc zero) a b c t = tt
named_refers g labels e low (suc (suc zero)) a b c t = ltb-true a g.R t
named_refers g labels e low (suc (suc (suc zero))) a b c t =
    let h = and_parts (ltb a e) (ltb b e) t in
    let x = ltb-true a e h.0 in
    let y = ltb-true b e h.1 in
    (omega arith, omega arith)
named_refers g labels e low (suc (suc (suc (suc zero)))) a b c t =
    let h = and_parts (ltb a e) (ltb b e && ltb c g.S) t in
    let k = and_parts (ltb b e) (ltb c g.S) h.1 in
    let x = ltb-true a e h.0 in
    let y = ltb-true b e k.0 in
    (omega arith, omega arith)
named_refers g labels e low (suc (suc (suc (suc (suc zero))))) a b c t = let x = ltb-true a e t in omega arith
named_refers g labels e low (suc (suc (suc (suc (suc (suc zero)))))) a b c t = let x = ltb-true a e t in omega arith
named_refers g labels e low (suc (suc (suc (suc (suc (suc (suc n))))))) a b c t =
    let h = and_parts (leb 1 a) (leb a g.L) t in
    λ k p. labels a k (leb-true 1 a h.0) (leb-true a g.L h.1) p

recovery_low : (g : Peg) (b a e : ℕ) → named_recovery g b a ≡ true → recovery_by b a ≡ Some e → e < g.N
recovery_low g zero a e t p = cc
recovery_low g (suc b) a e t p = let q : a ≡ e = cc in let l = ltb-true a g.N t in omega arith

-- a throw names one of the labels
named_throw : (g : Peg) (e k a b c l : ℕ) → named_kind g e k a b c ≡ true → of_kind k a b c ≡ Throw l → (1 ≤ l) × (l ≤ g.L)
named_throw g e zero a b c l t p = cc
named_throw g e (suc zero) a b c l t p = cc
named_throw g e (suc (suc zero)) a b c l t p = cc
named_throw g e (suc (suc (suc zero))) a b c l t p = cc
named_throw g e (suc (suc (suc (suc zero)))) a b c l t p = cc
named_throw g e (suc (suc (suc (suc (suc zero))))) a b c l t p = cc
named_throw g e (suc (suc (suc (suc (suc (suc zero)))))) a b c l t p = cc
named_throw g e (suc (suc (suc (suc (suc (suc (suc n))))))) a b c l t p =
    let q : a ≡ l = cc in
    let h = and_parts (leb 1 a) (leb a g.L) t in
    let x = leb-true 1 a h.0 in
    let y = leb-true a g.L h.1 in
    (omega arith, omega arith)

-- a terminal's mark is one of 32
formed_terminal : (k a b c x y d : ℕ) → formed_kind k a b c ≡ true → of_kind k a b c ≡ Terminal x y d → d ≤ highest_mark
formed_terminal zero a b c x y d t p = cc
formed_terminal (suc zero) a b c x y d t p = let q : c ≡ d = cc in let h = leb-true c highest_mark t in omega arith
formed_terminal (suc (suc zero)) a b c x y d t p = cc
formed_terminal (suc (suc (suc zero))) a b c x y d t p = cc
formed_terminal (suc (suc (suc (suc zero)))) a b c x y d t p = cc
formed_terminal (suc (suc (suc (suc (suc zero))))) a b c x y d t p = cc
formed_terminal (suc (suc (suc (suc (suc (suc zero)))))) a b c x y d t p = cc
formed_terminal (suc (suc (suc (suc (suc (suc (suc n))))))) a b c x y d t p = cc

module _ (ws : List ℕ) (pass : ReferencesPass ws) where
  formed_so : (w : ℕ) → w < length ws → formed ws w ≡ true
  formed_so w l = elim (cases_Bool (formed ws w)) [ inl t ↦ t | inr f ↦ absurd (pass.0.2 w (l, f)) ]

  named_so : (w : ℕ) → w < length ws → named ws w ≡ true
  named_so w l = elim (cases_Bool (named ws w)) [ inl t ↦ t | inr f ↦ absurd (pass.1 w (l, f)) ]

  named_part : (w : ℕ) (p : Part) → w < length ws → part_of (meaning ws) w ≡ p → named_as (meaning ws) p (get_or ws w 0) ≡ true
  named_part w p l q = sym (ap (λ (x : Part). named_as (meaning ws) x (get_or ws w 0)) q) ∙ named_so w l

  sets : 1 + (meaning ws).R + (meaning ws).L + (meaning ws).S + (meaning ws).N ≡ length ws
  sets = let h = pass.0.1.2.2.0 in omega arith

  bodies : (r : ℕ) → r < (meaning ws).R → (meaning ws).body r < (meaning ws).N
  bodies r l =
      let h = pass.0.1.2.2.0 in
      let low : 1 + r < length ws = omega arith in
      ltb-true (field_a (get_or ws (1 + r) 0)) (meaning ws).N (named_part (1 + r) Rule low (part_rule (meaning ws) r l))

  labels : (l e : ℕ) → 1 ≤ l → l ≤ (meaning ws).L → (meaning ws).recovery l ≡ Some e → e < (meaning ws).N
  labels l e low high p =
      let h = pass.0.1.2.2.0 in
      let n = pass.0.1.1.0 in
      let in_row : (meaning ws).R + l < length ws = omega arith in
      let w : ℕ = get_or ws ((meaning ws).R + l) 0 in
      recovery_low (meaning ws) (field_b w) (field_a w) e (named_part ((meaning ws).R + l) Label in_row (part_label (meaning ws) l low high)) p

  -- the word of an expression
  pub expression_word : (e : ℕ) → e < (meaning ws).N → word_of ws e ≡ 1 + (meaning ws).R + (meaning ws).L + (meaning ws).S + e
  expression_word e l = let s = sets in let h = pass.0.1.2.2.0 in omega arith

  in_row : (e : ℕ) → e < (meaning ws).N → word_of ws e < length ws
  in_row e l = let s = sets in let at = expression_word e l in omega arith

  part_here : (e : ℕ) → e < (meaning ws).N → part_of (meaning ws) (word_of ws e) ≡ Expression e
  part_here e l = ap (part_of (meaning ws)) (expression_word e l) ∙ part_expression (meaning ws) e

  -- the fields of an expression's word name what is there, and are formed as its kind has them
  module _ (e : ℕ) (l : e < (meaning ws).N) where
    abbrev here : ℕ
    here = get_or ws (word_of ws e) 0

    named_here : named_kind (meaning ws) e (kind here) (field_a here) (field_b here) (field_c here) ≡ true
    named_here = named_part (word_of ws e) (Expression e) (in_row e l) (part_here e l)

    formed_here : formed_kind (kind here) (field_a here) (field_b here) (field_c here) ≡ true
    formed_here = sym (ap (λ (x : Part). formed_as x (meaning ws).L here) (part_here e l)) ∙ formed_so (word_of ws e) (in_row e l)

    thrown_label : (k : ℕ) → (meaning ws).expr e ≡ Throw k → (1 ≤ k) × (k ≤ (meaning ws).L)
    thrown_label k p = named_throw (meaning ws) e (kind here) (field_a here) (field_b here) (field_c here) k named_here p

    terminal_mark : (a b c : ℕ) → (meaning ws).expr e ≡ Terminal a b c → c ≤ highest_mark
    terminal_mark a b c p = formed_terminal (kind here) (field_a here) (field_b here) (field_c here) a b c formed_here p

  expressions : (e : ℕ) → e < (meaning ws).N → Refers (meaning ws) ((meaning ws).expr e)
  expressions e l =
      let w : ℕ = get_or ws (word_of ws e) 0 in
      named_refers (meaning ws) labels e l (kind w) (field_a w) (field_b w) (field_c w) (named_here e l)

  pub whole : Whole (meaning ws)
  whole = (bodies, expressions)

-- so it is of a row that passes questions 1 to 4
pub row_passes : (row : WholeRow) → ReferencesPass row.words.now
row_passes row = ((row.counted, row.headed, row.formed), row.named)

pub row_whole : (row : WholeRow) → Whole (meaning row.words.now)
row_whole row = whole row.words.now (row_passes row)

-- what an accepted row means, in the words of the rules
module _ (ws : List ℕ) (accepted : Accepted ws) where
  pass : ReferencesPass ws
  pass = ((accepted.0, accepted.1, accepted.2), accepted.3)

  pub accepted_whole : Whole (meaning ws)
  accepted_whole = whole ws pass

  pub accepted_solid : Solid (meaning ws)
  accepted_solid e a m l p n = accepted.4 (word_of ws e) (e, l, refl, record { part = a; mode = m; repeats = p; nullable = n })

  pub accepted_ending : Ending (meaning ws)
  accepted_ending e m l w = accepted.5 (word_of ws e) (e, l, refl, (m, w))

  -- what is thrown is a label of the grammar, and there are 27 at most
  pub accepted_labels : (e l : ℕ) → e < (meaning ws).N → (meaning ws).expr e ≡ Throw l → (1 ≤ l) × (l ≤ (meaning ws).L)
  accepted_labels e l low p = thrown_label ws pass e low l p

  pub accepted_most_labels : (meaning ws).L ≤ most_labels
  accepted_most_labels = accepted.1.2.1

  -- a terminal's mark is one of 32
  pub accepted_marks : (e a b c : ℕ) → e < (meaning ws).N → (meaning ws).expr e ≡ Terminal a b c → c ≤ highest_mark
  accepted_marks e a b c low p = terminal_mark ws pass e low a b c p
