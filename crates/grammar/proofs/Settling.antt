-- Marks that are settled say just which expressions may match nothing, and from which no walk goes on for ever.
use Rattle.std.proofs.Common.{◌≡◌, ℕ, zero, suc, ◌<◌, ◌≤◌, Bool, true, false, not, Some, None, Option, sym, refl, ap, ◌∙◌, subst, inl, inr, arith}
use Rattle.std.proofs.lemmas.Bool.{and_parts, and_from, and_cases, or_cases, or_parts, or_left, or_right, not-true, not-false, both_ways, cases_Bool, cases_eq}
use Rattle.grammar.specs.declared.expr.Mode.{Mode}
use Rattle.grammar.specs.declared.expr.Mode.TheVariants.{On, Off}
use Rattle.grammar.specs.declared.expr.Expr.{Expr}
use Rattle.grammar.specs.declared.expr.Expr.TheVariants.{Empty, Terminal, Call, Sequence, Choice, Repetition, Predicate, Throw}
use Rattle.grammar.specs.declared.marks.Fact.{Fact}
use Rattle.grammar.specs.declared.marks.Fact.TheVariants.{MayMatchNothing, WalksEnd}
use Rattle.grammar.specs.Words.{Peg}
use Rattle.grammar.specs.Form.{recovers_lem, Nullable, Leads, Endless, Refers, Whole}
use Rattle.grammar.specs.Form.{by_empty, by_repetition, by_predicate, by_call, by_sequence, by_first, by_second, by_recovery}
use Rattle.grammar.specs.Form.{to_body, to_first, past_first, to_one, to_other, to_part, to_inside, to_recovery}
use Rattle.grammar.specs.Marks.{Marks, may, may_recovery, ends, ends_recovery, due, Halting, halts, Holds, Backed, Complete, Right, Ready, Decided, Same, other, unset, missing}

recovers_on : (g : Peg) (l e : ℕ) (m : Mode) → recovers_lem g l m ≡ Some e → g.recovery l ≡ Some e
recovers_on g l e On p = p
recovers_on g l e Off p = cc

module _ (g : Peg) (whole : Whole g) where
  -- a leading part is an expression of the grammar
  pub leads_low : {x : Expr} {m : Mode} {e : ℕ} {m' : Mode} → Leads g x m e m' → Refers g x → e < g.N
  leads_low (to_body {r = r}) h = whole.0 r h
  leads_low to_first h = h.0
  leads_low (past_first n) h = h.1
  leads_low to_one h = h.0
  leads_low to_other h = h.1
  leads_low to_part h = h
  leads_low to_inside h = h
  leads_low {m} (to_recovery {l = l} {e = e} p) h = h e (recovers_on g l e m p)

  module _ (s : Marks) where
    may_recovery_holds : Backed g s MayMatchNothing → (l : ℕ) (m : Mode) → Refers g (Throw l) → (o : Option ℕ) → recovers_lem g l m ≡ o → may_recovery s o ≡ true → Nullable g m (Throw l)
    may_recovery_holds b l m h None p t = cc
    may_recovery_holds b l m h (Some e) p t = by_recovery p (b e On (h e (recovers_on g l e m p)) t)

    may_holds : Backed g s MayMatchNothing → (x : Expr) (m : Mode) → Refers g x → may g s x m ≡ true → Nullable g m x
    may_holds b Empty m h t = by_empty
    may_holds b (Terminal a c k) m h t = cc
    may_holds b (Call r) m h t = by_call (b (g.body r) m (whole.0 r h) t)
    may_holds b (Sequence a c) m h t =
        let p = and_parts (s MayMatchNothing a m) (s MayMatchNothing c m) t in
        by_sequence (b a m h.0 p.0) (b c m h.1 p.1)
    may_holds b (Choice a c k) m h t = elim (or_cases (s MayMatchNothing a m) (s MayMatchNothing c m) t) [
      | inl p ↦ by_first (b a m h.0 p)
      | inr p ↦ by_second (b c m h.1 p)
    ]
    may_holds b (Repetition a) m h t = by_repetition
    may_holds b (Predicate a) m h t = by_predicate
    may_holds b (Throw l) m h t = may_recovery_holds b l m h (recovers_lem g l m) refl t

    ends_leads : Right g s → {x : Expr} {m : Mode} {e : ℕ} {m' : Mode} → Leads g x m e m' → Refers g x → ends g s x m ≡ true → s WalksEnd e m' ≡ true
    ends_leads r to_body h t = t
    ends_leads r (to_first {m = m} {a = a} {b = b}) h t = (and_parts (s WalksEnd a m) _ t).0
    ends_leads r (past_first {m = m} {a = a} {b = b} n) h t =
        elim (or_cases (not (s MayMatchNothing a m)) (s WalksEnd b m) (and_parts (s WalksEnd a m) _ t).1) [
          | inl p ↦ absurd (both_ways (s MayMatchNothing a m) (not-true _ p) (r.all_marks a m h.0 n))
          | inr p ↦ p
        ]
    ends_leads r (to_one {m = m} {a = a} {b = b}) h t = (and_parts (s WalksEnd a m) (s WalksEnd b m) t).0
    ends_leads r (to_other {m = m} {a = a} {b = b}) h t = (and_parts (s WalksEnd a m) (s WalksEnd b m) t).1
    ends_leads r to_part h t = t
    ends_leads r to_inside h t = t
    ends_leads r (to_recovery p) h t = sym (ap (ends_recovery s) p) ∙ t

    -- a mark that is due holds
    pub due_holds : (f : Fact) → Ready g s f → Backed g s f → (e : ℕ) (m : Mode) → e < g.N → due g s f (g.expr e) m ≡ true → Holds g f e m
    due_holds MayMatchNothing r b e m l t = may_holds b (g.expr e) m (whole.1 e l) t
    due_holds WalksEnd r b e m l t = halts (λ e' m' d. b e' m' (leads_low d (whole.1 e l)) (ends_leads r d (whole.1 e l) t))

    -- what may match nothing is marked, once no mark is missing
    nullable_may : Complete g s MayMatchNothing → {m : Mode} {x : Expr} → Nullable g m x → Refers g x → may g s x m ≡ true
    nullable_may c by_empty h = refl
    nullable_may c by_repetition h = refl
    nullable_may c by_predicate h = refl
    nullable_may c {m} (by_call {r = r} d) h = c (g.body r) m (whole.0 r h) (nullable_may c d (whole.1 (g.body r) (whole.0 r h)))
    nullable_may c {m} (by_sequence {a = a} {b = b} d e) h =
        and_from _ _ (c a m h.0 (nullable_may c d (whole.1 a h.0))) (c b m h.1 (nullable_may c e (whole.1 b h.1)))
    nullable_may c {m} (by_first {a = a} {b = b} d) h = or_left _ _ (c a m h.0 (nullable_may c d (whole.1 a h.0)))
    nullable_may c {m} (by_second {a = a} {b = b} d) h = or_right _ _ (c b m h.1 (nullable_may c d (whole.1 b h.1)))
    nullable_may c {m} (by_recovery {l = l} {e = e} p d) h =
        let low : e < g.N = h e (recovers_on g l e m p) in
        ap (may_recovery s) p ∙ c e On low (nullable_may c d (whole.1 e low))

    right : Backed g s MayMatchNothing → Complete g s MayMatchNothing → Right g s
    right b c = record { true_marks = b; all_marks = λ e m l n. c e m l (nullable_may c n (whole.1 e l)) }

    -- an unmarked expression has an unmarked leading part
    abbrev Onward : Expr → Mode → Type 0
    Onward x m = (e : ℕ) × (m' : Mode) × Leads g x m e m' × (s WalksEnd e m' ≡ false)

    onward_recovery : (l : ℕ) (m : Mode) (o : Option ℕ) → recovers_lem g l m ≡ o → ends_recovery s o ≡ false → Onward (Throw l) m
    onward_recovery l m None p t = cc
    onward_recovery l m (Some e) p t = (e, On, to_recovery p, t)

    onward : Right g s → (x : Expr) (m : Mode) → Refers g x → ends g s x m ≡ false → Onward x m
    onward r Empty m h t = cc
    onward r (Terminal a c k) m h t = cc
    onward r (Call p) m h t = (g.body p, m, to_body, t)
    onward r (Sequence a b) m h t = elim (and_cases (s WalksEnd a m) _ t) [
      | inl p ↦ (a, m, to_first, p)
      | inr p ↦
          let q = or_parts (not (s MayMatchNothing a m)) (s WalksEnd b m) p in
          (b, m, past_first (r.true_marks a m h.0 (not-false _ q.0)), q.1)
    ]
    onward r (Choice a b k) m h t = elim (and_cases (s WalksEnd a m) (s WalksEnd b m) t) [
      | inl p ↦ (a, m, to_one, p)
      | inr p ↦ (b, m, to_other, p)
    ]
    onward r (Repetition a) m h t = (a, m, to_part, t)
    onward r (Predicate a) m h t = (a, Off, to_inside, t)
    onward r (Throw l) m h t = onward_recovery l m (recovers_lem g l m) refl t

    module _ (r : Right g s) (c : Complete g s WalksEnd) where
      abbrev Unmarked : Type 0
      Unmarked = (e : ℕ) × (m : Mode) × (e < g.N) × (s WalksEnd e m ≡ false)

      undue : (x : Unmarked) → ends g s (g.expr x.0) x.1 ≡ false
      undue x = elim (cases_Bool (ends g s (g.expr x.0) x.1)) [
        | inl t ↦ absurd (both_ways (s WalksEnd x.0 x.1) x.3 (c x.0 x.1 x.2 t))
        | inr f ↦ f
      ]

      found : (x : Unmarked) → Onward (g.expr x.0) x.1
      found x = onward r (g.expr x.0) x.1 (whole.1 x.0 x.2) (undue x)

      next : Unmarked → Unmarked
      next x = ((found x).0, (found x).1, leads_low (found x).2 (whole.1 x.0 x.2), (found x).3)

      stream : Unmarked → ℕ → Unmarked
      stream x zero = x
      stream x (suc k) = next (stream x k)

      -- from an unmarked expression a walk goes on for ever
      walk : (x : Unmarked) → Endless g x.0 x.1
      unfolding stream next
      walk x = record {
        place = λ k. (stream x k).0;
        mode = λ k. (stream x k).1;
        starts = refl;
        starts_in = refl;
        goes = λ k. (found (stream x k)).2;
      }

  -- where every walk ends, none goes on for ever
  pub halting_ends : {e : ℕ} {m : Mode} → Halting g e m → Endless g e m → ⊥
  halting_ends {e} {m} (halts f) w =
      halting_ends
      (f (w.place 1) (w.mode 1) (subst (λ (y : ℕ). Leads g (g.expr y) m (w.place 1) (w.mode 1)) w.starts
      (subst (λ (k : Mode). Leads g (g.expr (w.place 0)) k (w.place 1) (w.mode 1)) w.starts_in (w.goes 0))))
      (record { place = λ k. w.place (suc k); mode = λ k. w.mode (suc k); starts = refl; starts_in = refl; goes = λ k. w.goes (suc k) })

  -- settled marks tell just where a fact holds
  pub decided : (s : Marks) (f : Fact) → Ready g s f → Backed g s f → Complete g s f → Decided g s f
  decided s MayMatchNothing r b c = right s b c
  decided s WalksEnd r b c = λ e m l. (λ t. halting_ends (b e m l t), λ t. walk s r c (e, m, l, t))

-- marks of one fact are the other's business only where they are asked for
pub ready_still : (g : Peg) (s s' : Marks) (f : Fact) → Same s s' (other f) → Ready g s f → Ready g s' f
ready_still g s s' MayMatchNothing same r = tt
ready_still g s s' WalksEnd same r = record {
  true_marks = λ e m l t. r.true_marks e m l (sym (same e m) ∙ t);
  all_marks = λ e m l n. same e m ∙ r.all_marks e m l n;
}

-- how many marks are missing

unset_le : (a b : Bool) → (a ≡ true → b ≡ true) → unset b ≤ unset a
unset_le true b h = rw (h refl) (omega arith)
unset_le false true h = omega arith
unset_le false false h = omega arith

unset_lt : (a b : Bool) → a ≡ false → b ≡ true → unset b < unset a
unset_lt a b p q = rw (p, q) (omega arith)

module _ (s s' : Marks) (f : Fact) (grows : (e : ℕ) (m : Mode) → s f e m ≡ true → s' f e m ≡ true) where
  missing_le : (n : ℕ) → missing s' f n ≤ missing s f n
  missing_le zero = omega arith
  missing_le (suc n) =
      let on = unset_le (s f n On) (s' f n On) (grows n On) in
      let off = unset_le (s f n Off) (s' f n Off) (grows n Off) in
      let rest = missing_le n in
      omega arith

  missing_here : (n : ℕ) (m : Mode) → s f n m ≡ false → s' f n m ≡ true → missing s' f (suc n) < missing s f (suc n)
  missing_here n On p q =
      let on = unset_lt (s f n On) (s' f n On) p q in
      let off = unset_le (s f n Off) (s' f n Off) (grows n Off) in
      let rest = missing_le n in
      omega arith
  missing_here n Off p q =
      let on = unset_le (s f n On) (s' f n On) (grows n On) in
      let off = unset_lt (s f n Off) (s' f n Off) p q in
      let rest = missing_le n in
      omega arith

  -- one mark more is one missing less
  pub missing_lt : (n e : ℕ) (m : Mode) → e < n → s f e m ≡ false → s' f e m ≡ true → missing s' f n < missing s f n
  missing_lt zero e m l p q = absurd (omega arith)
  missing_lt (suc n) e m l p q = elim (cases_eq e n) [
    | inl eq ↦ missing_here n m (subst (λ (k : ℕ). s f k m ≡ false) eq p) (subst (λ (k : ℕ). s' f k m ≡ true) eq q)
    | inr ne ↦
        let below = missing_lt n e m (omega arith) p q in
        let on = unset_le (s f n On) (s' f n On) (grows n On) in
        let off = unset_le (s f n Off) (s' f n Off) (grows n Off) in
        omega arith
  ]
