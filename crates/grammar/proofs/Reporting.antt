-- The check has exactly one report, and each layer's answer is a part of it.
use Rattle.std.proofs.Common.{◌≡◌, ℕ, ◌*◌, ◌≤◌, true, false, ◌↔◌, List, length, replicate, Ok, Err, Result, sym, refl, ap, ◌∙◌, subst, inl, inr, arith, MatchResult}
use Rattle.grammar.specs.declared.expr.Mode.TheVariants.{On, Off}
use Rattle.std.proofs.lemmas.Bool.{both_ways, cases_order}
use Rattle.grammar.specs.declared.fault.Layer.{Layer}
use Rattle.grammar.specs.declared.fault.Layer.TheVariants.{Words, References, Work, Form}
use Rattle.grammar.specs.declared.fault.WorkFault.{WorkFault}
use Rattle.grammar.specs.declared.fault.FormFault.{FormFault}
use Rattle.grammar.specs.declared.fault.FormFault.TheVariants.{Work as ofWork, EmptyRepetition, EndlessWalk}
use Rattle.grammar.specs.declared.fault.WorkFault.TheVariants.{References as ofReferences, Short}
use Rattle.grammar.specs.declared.fault.ReferenceFault.TheVariants.{Words as ofWords, Missing}
use Rattle.grammar.specs.declared.fault.WordFault.TheVariants.{Count, Header, Word}
use Rattle.grammar.specs.Words.{meaning}
use Rattle.grammar.specs.Faults.{Report, right, wrong, work_report, form_report}
use Rattle.grammar.specs.Questions.{Asks, AsksForm, Lowest, NoMore, Reported, Accepted, WorkPasses, FormPasses, FormFails, fault_left}
use Rattle.grammar.specs.Marks.{Mask, Judged}

-- there is one lowest word
lowest_one : (No : ℕ → Type 0) (w v : ℕ) → Lowest No w → Lowest No v → w ≡ v
lowest_one No w v a b = elim (cases_order w v) [
  | inl e ↦ e
  | inr o ↦ elim o [ inl lt ↦ absurd (b.below w lt a.no) | inr lt ↦ absurd (a.below v lt b.no) ]
]

module _ (number : ℕ) (layer : Layer) (No : ℕ → Type 0) where
  asks_one : (Others : Report → Type 0) → ((s t : Report) → Others s → Others t → s ≡ t) → (s t : Report) → Asks number layer No Others s → Asks number layer No Others t → s ≡ t
  asks_one Others one s t (inl a) (inl b) = a.2 ∙ ap (wrong number layer) (lowest_one No a.0 b.0 a.1 b.1) ∙ sym b.2
  asks_one Others one s t (inl a) (inr b) = absurd (b.0 a.0 a.1.no)
  asks_one Others one s t (inr a) (inl b) = absurd (a.0 b.0 b.1.no)
  asks_one Others one s t (inr a) (inr b) = one s t a.1 b.1

  asks_on : (Others More : Report → Type 0) → ((t : Report) → Others t → More t) → (t : Report) → Asks number layer No Others t → Asks number layer No More t
  asks_on Others More f t (inl a) = inl a
  asks_on Others More f t (inr b) = inr (b.0, f t b.1)

none_left : (More : Report → Type 0) (t : Report) → NoMore t → More t
none_left More t h = absurd h

module _ (ws : List ℕ) (n : ℕ) where
  reported_one : (s t : Report) → Reported ws n s → Reported ws n t → s ≡ t
  reported_one = asks_one _ _ _ _ (asks_one _ _ _ _ (asks_one _ _ _ _ (asks_one _ _ _ _ (asks_one _ _ _ _ (asks_one _ _ _ _ (asks_one _ _ _ _ (λ s t a b. a ∙ sym b)))))))

  -- past the lower layers, the form's report is the check's
  past_lower : (t : Report) → WorkPasses ws n → AsksForm ws (λ u. u ≡ right) t → Reported ws n t
  past_lower t p form =
      inr (
        λ w h. h.1 p.0.0.0,
        inr (
          λ w h. h.1 p.0.0.1,
          inr (
            p.0.0.2,
            inr (
              p.0.1,
              inr (λ w h. let short = h.1 in let room = p.1 in omega arith, form),
            ),
          ),
        ),
      )

  pub form_reported : (t : Report) → WorkPasses ws n → FormFails ws t → Reported ws n t
  form_reported t p f = past_lower t p (asks_on _ _ _ _ _ (asks_on _ _ _ NoMore (λ u. u ≡ right) (none_left (λ u. u ≡ right))) t f)

  pub right_reported : WorkPasses ws n → FormPasses ws → Reported ws n right
  right_reported p f = past_lower right p (inr (f.0, inr (f.1, refl)))

  -- what is reported, is reported alone
  pub exactly : (s : Report) → Reported ws n s → (t : Report) → (s ≡ t) ↔ Reported ws n t
  exactly s r t = (λ e. subst (Reported ws n) e r, λ q. reported_one s t r q)

  wrong_report : (f : FormFault) → form_report f ≡ right → ⊥
  wrong_report (ofWork (ofReferences (ofWords Count))) e = cc
  wrong_report (ofWork (ofReferences (ofWords Header))) e = cc
  wrong_report (ofWork (ofReferences (ofWords (Word w)))) e = cc
  wrong_report (ofWork (ofReferences (Missing w))) e = cc
  wrong_report (ofWork Short) e = cc
  wrong_report (EmptyRepetition w) e = cc
  wrong_report (EndlessWalk w) e = cc

  pub refused : (f : FormFault) → Reported ws n (form_report f) → (false ≡ true) ↔ (Accepted ws × (2 * (meaning ws).N ≤ n))
  refused f r = (
    λ e. absurd (both_ways false refl e),
    λ h. absurd (wrong_report f (reported_one (form_report f) right r
        (right_reported (((h.0.0, h.0.1, h.0.2), h.0.3), h.1) (h.0.4, h.0.5)))),
  )

  pub all_accepted : WorkPasses ws n → FormPasses ws → Accepted ws
  all_accepted p f = (p.0.0.0, p.0.0.1, p.0.0.2, p.0.1, f.0, f.1)

-- the layer of a report
layer_of : Report → ℕ
layer_of right = 0
layer_of (wrong n Words w) = 1
layer_of (wrong n References w) = 1
layer_of (wrong n Work w) = 1
layer_of (wrong n Form w) = 2

lower_layer : (f : WorkFault) → layer_of (work_report f) ≡ 1
unfolding layer_of
lower_layer (ofReferences (ofWords Count)) = refl
lower_layer (ofReferences (ofWords Header)) = refl
lower_layer (ofReferences (ofWords (Word w))) = refl
lower_layer (ofReferences (Missing w)) = refl
lower_layer Short = refl

form_layer : (ws : List ℕ) (t : Report) → FormFails ws t → layer_of t ≡ 2
unfolding layer_of
form_layer ws t (inl a) = ap layer_of a.2
form_layer ws t (inr b) = elim b.1 [ inl a ↦ ap layer_of a.2 | inr c ↦ absurd c.1 ]

-- a fault of the form leaves zeros in the work words
zeros_left : (ws work : List ℕ) (f : FormFault) → FormFails ws (form_report f) → replicate (length work) 0 ≡ fault_left f work
zeros_left ws work (ofWork f) h = let a = lower_layer f in let b = form_layer ws (work_report f) h in absurd (omega arith)
zeros_left ws work (EmptyRepetition w) h = refl
zeros_left ws work (EndlessWalk w) h = refl

-- the form's answer, once the lower layers have none, is the check's
pub judged_form : (ws work after : List ℕ) (r : Result (ℕ × ℕ) FormFault) → WorkPasses ws (length work) → after ≡ replicate (length work) 0
    → MatchResult r (λ rules. FormPasses ws × Mask (meaning ws) On rules.0 × Mask (meaning ws) Off rules.1) (λ f. FormFails ws (form_report f))
    → Judged ws work after r
judged_form ws work after (Ok rules) p blank h = record {
  reported = right_reported ws (length work) p h.0;
  accepted = all_accepted ws (length work) p h.0;
  room = p.1;
  blank = blank;
  mask_on = h.1;
  mask_off = h.2;
}
judged_form ws work after (Err f) p blank h = record {
  reported = form_reported ws (length work) (form_report f) p h;
  left = blank ∙ zeros_left ws work f h;
}
