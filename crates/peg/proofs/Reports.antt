-- What the check reports of a row, by computation: given what may match nothing, and a rank that falls along every walk.
use Rattle.std.proofs.Common.{◌≡◌, ℕ, zero, suc, ◌+◌, ◌*◌, ◌<◌, ◌≤◌, Bool, true, false, not, ◌&&◌, ◌||◌, eqb, ltb, leb, List, length, get_or, sym, refl, ap, ◌∙◌, subst, inl, inr, arith}
use Rattle.std.proofs.lemmas.Bool.{both_ways, cases_eq, leb-true, ltb-true, eqb-true, and_parts, and_from, or_cases, or_left, or_right, not-true}
use Rattle.grammar.specs.declared.expr.Mode.{Mode}
use Rattle.grammar.specs.declared.expr.Mode.TheVariants.{On, Off}
use Rattle.grammar.specs.declared.fault.Layer.TheVariants.{Form}
use Rattle.grammar.specs.declared.expr.Expr.{Expr}
use Rattle.grammar.specs.Words.{kind, Peg, meaning}
use Rattle.grammar.specs.Form.{Nullable, Leads, Endless, Refers, Whole}
use Rattle.grammar.specs.Form.{by_empty, by_repetition, by_predicate, by_call, by_sequence, by_first, by_second, by_recovery}
use Rattle.grammar.specs.Form.{to_body, to_first, past_first, to_one, to_other, to_part, to_inside, to_recovery}
use Rattle.grammar.specs.Faults.{wrong}
use Rattle.grammar.specs.Questions.{fewest_words, most_words, most_expressions, most_rules, most_labels, most_sets, least_words, Between, Headed, formed, named, word_of, Never, HollowAt, Hollow, EndlessAt, ReferencesPass, FormPasses}
use Rattle.grammar.specs.Marks.{Marks, fact_bit, may, may_recovery, ends, ends_recovery, hollow}
use Rattle.grammar.proofs.Referring.{whole}
use Rattle.grammar.proofs.Finding.{lowest_word, no_word}
use Rattle.grammar.proofs.Reporting.{form_reported, right_reported, all_accepted}
use Rattle.peg.specs.Worked.{Checked, Passes}
use Rattle.peg.proofs.Walks.{recovery_low, leads_low}

-- a test of every number below n
abbrev all_below : (ℕ → Bool) → ℕ → Bool
all_below p zero = true
all_below p (suc n) = all_below p n && p n

all_so : (p : ℕ → Bool) (n : ℕ) → all_below p n ≡ true → (k : ℕ) → k < n → p k ≡ true
all_so p zero h k l = absurd (omega arith)
all_so p (suc n) h k l =
    let q = and_parts (all_below p n) (p n) h in
    elim (cases_eq k n) [ inl e ↦ ap p e ∙ q.1 | inr ne ↦ all_so p n q.0 k (omega arith) ]

never : (p : ℕ → Bool) (n : ℕ) → all_below p n ≡ true → Never (λ w. (w < n) × (p w ≡ false))
never p n h w f = both_ways (p w) f.1 (all_so p n h w f.0)

-- the questions about words and references
abbrev between : ℕ → ℕ → ℕ → Bool
between low x high = leb low x && leb x high

between_so : (low x high : ℕ) → between low x high ≡ true → Between low x high
between_so low x high h = let q = and_parts (leb low x) (leb x high) h in (leb-true low x q.0, leb-true x high q.1)

module _ (ws : List ℕ) where
  abbrev counted : Bool
  counted = between fewest_words (length ws) most_words

  abbrev sized : Bool
  sized = between (least_words (meaning ws)) (length ws) (least_words (meaning ws) + most_sets)

  abbrev numbered : Bool
  numbered = between 1 (meaning ws).R most_rules && (leb (meaning ws).L most_labels && sized)

  abbrev headed : Bool
  headed = eqb (kind (get_or ws 0 0)) 8 && (between 1 (meaning ws).N most_expressions && numbered)

  abbrev all_formed : Bool
  all_formed = all_below (formed ws) (length ws)

  abbrev all_named : Bool
  all_named = all_below (named ws) (length ws)

  abbrev in_order : Bool
  in_order = counted && (headed && (all_formed && all_named))

  headed_so : headed ≡ true → Headed ws
  headed_so h =
      let a = and_parts (eqb (kind (get_or ws 0 0)) 8) (between 1 (meaning ws).N most_expressions && numbered) h in
      let b = and_parts (between 1 (meaning ws).N most_expressions) numbered a.1 in
      let c = and_parts (between 1 (meaning ws).R most_rules) (leb (meaning ws).L most_labels && sized) b.1 in
      let d = and_parts (leb (meaning ws).L most_labels) sized c.1 in (
        eqb-true (kind (get_or ws 0 0)) 8 a.0,
        between_so 1 (meaning ws).N most_expressions b.0,
        (
          between_so 1 (meaning ws).R most_rules c.0,
          leb-true (meaning ws).L most_labels d.0,
          between_so (least_words (meaning ws)) (length ws) (least_words (meaning ws) + most_sets) d.1,
        ),
      )

  references_pass : in_order ≡ true → ReferencesPass ws
  references_pass h =
      let a = and_parts counted (headed && (all_formed && all_named)) h in
      let b = and_parts headed (all_formed && all_named) a.1 in
      let c = and_parts all_formed all_named b.1 in
      ((between_so fewest_words (length ws) most_words a.0, headed_so b.0, never (formed ws) (length ws) c.0), never (named ws) (length ws) c.1)

-- something for each expression in each mode, and a test of them all
abbrev pub ForEach : Type 0 → Type 0
ForEach A = ℕ → Mode → A

abbrev in_both : ForEach Bool → ℕ → Bool
in_both p e = p e On && p e Off

all_in_both : (p : ForEach Bool) (n : ℕ) → all_below (in_both p) n ≡ true → (e : ℕ) (m : Mode) → e < n → p e m ≡ true
all_in_both p n h e On l = (and_parts (p e On) (p e Off) (all_so (in_both p) n h e l)).0
all_in_both p n h e Off l = (and_parts (p e On) (p e Off) (all_so (in_both p) n h e l)).1

if_so : (a b : Bool) → (not a || b) ≡ true → a ≡ true → b ≡ true
if_so a b h p = elim (or_cases (not a) b h) [ inl q ↦ absurd (both_ways a (not-true a q) p) | inr q ↦ q ]

-- the marks of the check, where s may match nothing, and walks from w end
abbrev by_number : ℕ → ForEach Bool → ForEach Bool → ForEach Bool
by_number zero s w = s
by_number (suc n) s w = w

abbrev marks : ForEach Bool → ForEach Bool → Marks
marks s w f e m = by_number (fact_bit f) s w e m

module _ (g : Peg) (s : ForEach Bool) where
  -- what may match nothing, if what is in s may, is in s
  abbrev held_at : ForEach Bool
  held_at e m = not (may g (marks s s) (g.expr e) m) || s e m

  abbrev holds_all : Bool
  holds_all = all_below (in_both held_at) g.N

  -- no repetition below n has its part in s
  abbrev firm_at : ℕ → Bool
  firm_at e = not (hollow (marks s s) (g.expr e))

  abbrev firm : ℕ → Bool
  firm n = all_below firm_at n

  -- a rank falls to each leading part
  abbrev falls_at : ForEach ℕ → ForEach Bool
  falls_at rank e m = ends g (marks s (λ e' m'. ltb (rank e' m') (rank e m))) (g.expr e) m

  abbrev falling : ForEach ℕ → Bool
  falling rank = all_below (in_both (falls_at rank)) g.N

module _ (g : Peg) (whole : Whole g) (s : ForEach Bool) (all : holds_all g s ≡ true) where
  held : (e : ℕ) (m : Mode) → e < g.N → may g (marks s s) (g.expr e) m ≡ true → s e m ≡ true
  held e m l = if_so (may g (marks s s) (g.expr e) m) (s e m) (all_in_both (held_at g s) g.N all e m l)

  -- what may match nothing is in s
  nullable_may : {m : Mode} {x : Expr} → Nullable g m x → Refers g x → may g (marks s s) x m ≡ true
  nullable_may by_empty h = refl
  nullable_may by_repetition h = refl
  nullable_may by_predicate h = refl
  nullable_may {m} (by_call {r = r} d) h = held (g.body r) m (whole.0 r h) (nullable_may d (whole.1 (g.body r) (whole.0 r h)))
  nullable_may {m} (by_sequence {a = a} {b = b} d e) h =
      and_from (s a m) (s b m) (held a m h.0 (nullable_may d (whole.1 a h.0))) (held b m h.1 (nullable_may e (whole.1 b h.1)))
  nullable_may {m} (by_first {a = a} {b = b} d) h = or_left (s a m) (s b m) (held a m h.0 (nullable_may d (whole.1 a h.0)))
  nullable_may {m} (by_second {a = a} {b = b} d) h = or_right (s a m) (s b m) (held b m h.1 (nullable_may d (whole.1 b h.1)))
  nullable_may {m} (by_recovery {l = l} {e = e} p d) h =
      let low : e < g.N = recovery_low g l m e h p in
      ap (may_recovery (marks s s)) p ∙ held e On low (nullable_may d (whole.1 e low))

  nullable_in : (e : ℕ) (m : Mode) → e < g.N → Nullable g m (g.expr e) → s e m ≡ true
  nullable_in e m l n = held e m l (nullable_may n (whole.1 e l))

  in_either : (a : ℕ) (m : Mode) → s a m ≡ true → (s a On || s a Off) ≡ true
  in_either a On t = or_left (s a On) (s a Off) t
  in_either a Off t = or_right (s a On) (s a Off) t

  not_hollow : (n : ℕ) → firm g s n ≡ true → (e : ℕ) → e < n → e < g.N → HollowAt g e → ⊥
  not_hollow n t e l low h =
      let part : h.part < g.N = subst (Refers g) h.repeats (whole.1 e low) in
      both_ways (hollow (marks s s) (g.expr e)) (not-true (hollow (marks s s) (g.expr e)) (all_so (firm_at g s) n t e l))
      (ap (hollow (marks s s)) h.repeats ∙ in_either h.part h.mode (nullable_in h.part h.mode part h.nullable))

  -- a leading part is among those from which walks end
  leads_in : (w : ForEach Bool) {x : Expr} {m : Mode} {e : ℕ} {m' : Mode} → Leads g x m e m' → Refers g x → ends g (marks s w) x m ≡ true → w e m' ≡ true
  leads_in w to_body h t = t
  leads_in w (to_first {m = m} {a = a} {b = b}) h t = (and_parts (w a m) (not (s a m) || w b m) t).0
  leads_in w (past_first {m = m} {a = a} {b = b} n) h t = if_so (s a m) (w b m) (and_parts (w a m) (not (s a m) || w b m) t).1 (nullable_in a m h.0 n)
  leads_in w (to_one {m = m} {a = a} {b = b}) h t = (and_parts (w a m) (w b m) t).0
  leads_in w (to_other {m = m} {a = a} {b = b}) h t = (and_parts (w a m) (w b m) t).1
  leads_in w to_part h t = t
  leads_in w to_inside h t = t
  leads_in w (to_recovery p) h t = sym (ap (ends_recovery (marks s w)) p) ∙ t

  -- an endless walk would count a rank down for ever
  module _ (rank : ForEach ℕ) (t : falling g s rank ≡ true) {e : ℕ} {m : Mode} (low : e < g.N) (walk : Endless g e m) where
    stays : (k : ℕ) → walk.place k < g.N
    stays zero = subst (λ x. x < g.N) (sym walk.starts) low
    stays (suc k) = leads_low (walk.goes k) whole (whole.1 (walk.place k) (stays k))

    abbrev here : ℕ → ℕ
    here k = rank (walk.place k) (walk.mode k)

    falls : (k : ℕ) → here (suc k) < here k
    falls k =
        ltb-true (here (suc k)) (here k)
        (leads_in (λ e' m'. ltb (rank e' m') (here k)) (walk.goes k) (whole.1 (walk.place k) (stays k))
        (all_in_both (falls_at g s rank) g.N t (walk.place k) (walk.mode k) (stays k)))

    fallen : (k : ℕ) → here k + k ≤ here 0
    fallen zero = omega arith
    fallen (suc k) = omega (arith, fallen k, falls k)

    no_walk : ⊥
    no_walk = omega (arith, fallen (suc (here 0)))

-- a row in order, with a set that holds all that may match nothing
module _ (ws : List ℕ) (s : ForEach Bool) (t : (in_order ws && holds_all (meaning ws) s) ≡ true) where
  pass : ReferencesPass ws
  pass = references_pass ws (and_parts (in_order ws) (holds_all (meaning ws) s) t).0

  all : holds_all (meaning ws) s ≡ true
  all = (and_parts (in_order ws) (holds_all (meaning ws) s) t).1

  solid : firm (meaning ws) s (meaning ws).N ≡ true → Never (Hollow ws)
  solid h = no_word ws (HollowAt (meaning ws)) (λ e l. not_hollow (meaning ws) (whole ws pass) s all (meaning ws).N h e l l)

  -- the lowest repetition whose part may match nothing
  pub hollow_row : (e : ℕ) → e < (meaning ws).N → HollowAt (meaning ws) e → firm (meaning ws) s e ≡ true → Checked ws (wrong 6 Form (word_of ws e))
  hollow_row e l here h lent room =
      form_reported ws lent (wrong 6 Form (word_of ws e)) (pass, room)
      (inl (word_of ws e, lowest_word ws (HollowAt (meaning ws)) e l here (λ k lt. not_hollow (meaning ws) (whole ws pass) s all e h k lt (omega arith)), refl))

  -- expression 0, from which a walk goes on for ever
  pub endless_row : 0 < (meaning ws).N → EndlessAt (meaning ws) 0 → firm (meaning ws) s (meaning ws).N ≡ true → Checked ws (wrong 7 Form (word_of ws 0))
  endless_row l here h lent room =
      form_reported ws lent (wrong 7 Form (word_of ws 0)) (pass, room)
      (inr (solid h, inl (word_of ws 0, lowest_word ws (EndlessAt (meaning ws)) 0 l here (λ k lt w. omega arith), refl)))

  -- no repetition with such a part, and a rank that falls
  pub right_row : (rank : ForEach ℕ) → (firm (meaning ws) s (meaning ws).N && falling (meaning ws) s rank) ≡ true → Passes ws
  right_row rank h =
      let q = and_parts (firm (meaning ws) s (meaning ws).N) (falling (meaning ws) s rank) h in
      let form : FormPasses ws = (solid q.0, no_word ws (EndlessAt (meaning ws)) (λ e l w. no_walk (meaning ws) (whole ws pass) s all rank q.1 l w.1)) in
      (all_accepted ws (2 * (meaning ws).N) (pass, omega arith) form, λ lent room. right_reported ws lent (pass, room) form)
