-- Every expression of a well-formed grammar gives something, and not too deep.
use Rattle.std.proofs.Common.{◌≡◌, ℕ, zero, suc, ◌+◌, ◌-◌, ◌*◌, ◌<◌, ◌≤◌, Bool, true, false, ◌⊎◌, List, [], ◌∷◌, length, Some, None, Option, sym, refl, ap, ◌∙◌, subst, inl, inr, not-suc-le-zero, suc-mul, mul_comm, eq-or-lt_of_le, add-one, arith}
use native.Mathlib.Decide.{dec_le}
use Rattle.grammar.specs.Form.{Nullable, Refers, Whole, Solid}
use Rattle.grammar.specs.Form.{by_empty, by_repetition, by_predicate, by_call, by_sequence, by_first, by_second, by_recovery}
use Rattle.grammar.specs.Form.{to_body, to_first, past_first, to_one, to_other, to_part, to_inside, to_recovery}
use Rattle.grammar.specs.declared.expr.Mode.{Mode}
use Rattle.grammar.specs.declared.expr.Mode.TheVariants.{On, Off}
use Rattle.grammar.specs.declared.expr.Expr.{Expr}
use Rattle.grammar.specs.declared.expr.Expr.TheVariants.{Empty, Terminal, Call, Sequence, Choice, Repetition, Predicate, Throw}
use Rattle.grammar.specs.Words.{Peg, meaning}
use Rattle.grammar.specs.Questions.{Accepted}
use Rattle.grammar.proofs.Referring.{accepted_whole, accepted_solid, accepted_ending}
use Rattle.grammar.specs.Form.{recovers_lem}
use Rattle.peg.specs.declared.results.Outcome.{Outcome}
use Rattle.peg.specs.declared.results.Outcome.TheVariants.{Match, Failure}
use Rattle.peg.specs.declared.results.RulePlace.{RulePlace}
use Rattle.peg.specs.Results.{Given}
use Rattle.peg.specs.Rules.{Text, Gives, RuleGives, caught, denied, one_deeper, of_rule, of_sequence, of_other, of_end, of_round, of_predicate, of_recovery}
use Rattle.peg.specs.Rules.{empty_matches, terminal_matches, terminal_fails, call_gives, sequence_goes_on, sequence_fails, choice_stays, choice_turns, repetition_ends, repetition_fails, repetition_goes_on, predicate_denies, throw_fails, throw_recovers, as_its_body}
use Rattle.peg.specs.Halting.{Halts, RuleHalts}
use Rattle.text.specs.Meaning.{accepted}
use Rattle.peg.specs.Totality.{WellFormed, Ends, deepest, JustOne, ExactlyOne, Total}
use Rattle.peg.proofs.Rules.{one, one_rule}
use Rattle.peg.proofs.Halting.{apart, deeper}
use Rattle.peg.proofs.Places.{end_from}
use Rattle.peg.proofs.Walks.{Short, short, recovery_low}

clash : (o : Outcome) (l p j : ℕ) → o ≡ Failure l p → o ≡ Match j → ⊥
clash o l p j e f = let z : ◌≡◌ {A = ℕ} 0 1 = cc in omega arith

module _ (g : Peg) (t : Text) where
  -- what matches nothing may match nothing
  pub idle : {x : Expr} {i : ℕ} {m : Mode} {v : Given} → Gives g t x i m v → (j : ℕ) → v.outcome ≡ Match j → j ≤ i → Nullable g m x
  idle empty_matches j e h = by_empty
  idle {i} (terminal_matches p) j e h = let z : i + 1 ≡ j = cc in let b : ⊥ = omega arith in absurd b
  idle {i} (terminal_fails p) j e h = absurd (clash (Failure 0 i) 0 i j refl e)
  idle (call_gives d) j e h = by_call (idle d j e h)
  idle {i} (sequence_goes_on {j = k} {v = v} {w = w} d p f) j e h =
      let l : i ≤ k = end_from g t d k p in
      let r : k ≤ j = end_from g t f j e in
      by_sequence (idle d k p (omega arith)) (idle f j e (omega arith))
  idle (sequence_fails {l = l} {p = q} {v = v} d p) j e h = absurd (clash v.outcome l q j p e)
  idle (choice_stays d p) j e h = by_first (idle d j e h)
  idle (choice_turns d p f) j e h = by_second (idle f j e h)
  idle (repetition_ends d p) j e h = by_repetition
  idle (repetition_fails d p) j e h = by_repetition
  idle (repetition_goes_on d p f) j e h = by_repetition
  idle (predicate_denies d) j e h = by_predicate
  idle {i} (throw_fails {l = l} p) j e h = absurd (clash (Failure l i) l i j refl e)
  idle (throw_recovers p d) j e h = by_recovery p (idle d j e h)

abbrev pub EndWithin : ℕ → Outcome → Type 0
EndWithin n (Match j) = j ≤ n
EndWithin n (Failure l p) = Unit {0}

denied_within : (n i : ℕ) (o : Outcome) → i ≤ n → EndWithin n (denied i o)
denied_within n i (Match j) h = tt
denied_within n i (Failure zero p) h = h
denied_within n i (Failure (suc l) p) h = tt

module _ (g : Peg) (t : Text) (n : ℕ) (ends : Ends t n) where
  end_within : {x : Expr} {i : ℕ} {m : Mode} {v : Given} → Gives g t x i m v → i ≤ n → EndWithin n v.outcome
  end_within empty_matches h = h
  end_within {i} (terminal_matches {a = a} {b = b} p) h = omega (arith, ends a b i p)
  end_within (terminal_fails p) h = tt
  end_within (call_gives d) h = end_within d h
  end_within (sequence_goes_on d p f) h = end_within f (subst (EndWithin n) p (end_within d h))
  end_within (sequence_fails d p) h = end_within d h
  end_within (choice_stays d p) h = end_within d h
  end_within (choice_turns d p f) h = end_within f h
  end_within (repetition_ends d p) h = h
  end_within (repetition_fails d p) h = end_within d h
  end_within (repetition_goes_on d p f) h = end_within f (subst (EndWithin n) p (end_within d h))
  end_within {i} (predicate_denies {v = v} d) h = denied_within n i v.outcome h
  end_within (throw_fails p) h = tt
  end_within (throw_recovers p d) h = end_within d h

  -- no match ends beyond the text
  pub within : {x : Expr} {i : ℕ} {m : Mode} {v : Given} → Gives g t x i m v → i ≤ n → (j : ℕ) → v.outcome ≡ Match j → j ≤ n
  within d h j e = subst (EndWithin n) e (end_within d h)

-- x is an expression of the grammar
pub record Of (g : Peg) (x : Expr) : Type 0 where
  pub number : ℕ
  pub low : number < g.N
  pub is : g.expr number ≡ x

pub numbered : (g : Peg) (e : ℕ) → e < g.N → Of g (g.expr e)
numbered g e h = record { number = e; low = h; is = refl }

-- its parts are expressions of the grammar too
module _ (g : Peg) (whole : Whole g) where
  pub refers : (x : Expr) → Of g x → Refers g x
  refers x k = subst (Refers g) k.is (whole.1 k.number k.low)

  pub body_of : (r : ℕ) → Of g (Call r) → Of g (g.expr (g.body r))
  body_of r k = numbered g (g.body r) (whole.0 r (refers (Call r) k))

  pub first_of : (a b : ℕ) → Of g (Sequence a b) → Of g (g.expr a)
  first_of a b k = numbered g a (refers (Sequence a b) k).0

  pub second_of : (a b : ℕ) → Of g (Sequence a b) → Of g (g.expr b)
  second_of a b k = numbered g b (refers (Sequence a b) k).1

  pub one_of : (a b s : ℕ) → Of g (Choice a b s) → Of g (g.expr a)
  one_of a b s k = numbered g a (refers (Choice a b s) k).0

  pub other_of : (a b s : ℕ) → Of g (Choice a b s) → Of g (g.expr b)
  other_of a b s k = numbered g b (refers (Choice a b s) k).1

  pub part_of : (a : ℕ) → Of g (Repetition a) → Of g (g.expr a)
  part_of a k = numbered g a (refers (Repetition a) k)

  pub inside_of : (a : ℕ) → Of g (Predicate a) → Of g (g.expr a)
  inside_of a k = numbered g a (refers (Predicate a) k)

  pub recovery_of : (l : ℕ) (m : Mode) (e : ℕ) → Of g (Throw l) → recovers_lem g l m ≡ Some e → Of g (g.expr e)
  recovery_of l m e k p = numbered g e (recovery_low g l m e (refers (Throw l) k) p)

abbrev Good : Peg → Text → ℕ → Expr → ℕ → Mode → Type 0
Good g t b x i m = (v : Given) × Gives g t x i m v × (v.depth ≤ b)

-- every walk of the grammar has c expressions at most
module _ (g : Peg) (whole : Whole g) (solid : Solid g) (c : ℕ) (walks : (e : ℕ) (m : Mode) → e < g.N → Short g c (g.expr e) m) (t : Text) (n : ℕ) (ends : Ends t n) where
  -- with at most d places behind j all is done
  abbrev Later : ℕ → Type 0
  Later d = (x : Expr) (m : Mode) (j : ℕ) → Of g x → j ≤ n → n - j < d → Good g t (d * c) x j m

  sequence_good : (d k a b i : ℕ) (m : Mode) → Later d → n - i < suc d → Of g (g.expr b) → i ≤ n → (v : Given) → Gives g t (g.expr a) i m v → v.depth ≤ d * c + k
      → (Nullable g m (g.expr a) → Good g t (d * c + k) (g.expr b) i m)
      → (o : Outcome) → v.outcome ≡ o → Good g t (d * c + suc k) (Sequence a b) i m
  sequence_good d k a b i m ih h kn le v y l f (Match j) e = go (eq-or-lt_of_le (end_from g t y j e))
    where
      go : (i ≡ j) ⊎ (i < j) → Good g t (d * c + suc k) (Sequence a b) i m
      go (inl p) =
          let q = f (idle g t y j e (omega arith)) in
          (of_sequence v q.0, sequence_goes_on y (rw p e) q.1, omega arith)
      go (inr p) =
          let z : j ≤ n = within g t n ends y le j e in
          let q = ih (g.expr b) m j kn z (omega arith) in
          (of_sequence v q.0, sequence_goes_on y e q.1, omega arith)
  sequence_good d k a b i m ih h kn le v y l f (Failure z p) e = (one_deeper v, sequence_fails y e, omega arith)

  choice_good : (d k a b s i : ℕ) (m : Mode) (v : Given) → Gives g t (g.expr a) i m v → v.depth ≤ d * c + k
      → Good g t (d * c + k) (g.expr b) i m
      → (o : Bool) → caught g s v.outcome ≡ o → Good g t (d * c + suc k) (Choice a b s) i m
  choice_good d k a b s i m v y l q true e = (of_other v q.0, choice_turns y e q.1, omega arith)
  choice_good d k a b s i m v y l q false e = (one_deeper v, choice_stays y e, omega arith)

  repetition_good : (d k a i : ℕ) (m : Mode) → Later d → n - i < suc d → Of g (Repetition a) → i ≤ n → (v : Given) → Gives g t (g.expr a) i m v → v.depth ≤ d * c + k
      → (o : Outcome) → v.outcome ≡ o → Good g t (d * c + suc k) (Repetition a) i m
  repetition_good d k a i m ih h kn le v y l (Match j) e = go (eq-or-lt_of_le (end_from g t y j e))
    where
      go : (i ≡ j) ⊎ (i < j) → Good g t (d * c + suc k) (Repetition a) i m
      go (inl p) = absurd (solid kn.number a m kn.low kn.is (idle g t y j e (omega arith)))
      go (inr p) =
          let z : j ≤ n = within g t n ends y le j e in
          let q = ih (Repetition a) m j kn z (omega arith) in
          (of_round v q.0, repetition_goes_on y e q.1, omega arith)
  repetition_good d k a i m ih h kn le v y l (Failure zero p) e = (of_end i v, repetition_ends y e, omega arith)
  repetition_good d k a i m ih h kn le v y l (Failure (suc z) p) e = (one_deeper v, repetition_fails y e, omega arith)

  terminal_good : (b p q s i k : ℕ) (m : Mode) (o : Bool) → t p q i ≡ o → Good g t (b + suc k) (Terminal p q s) i m
  terminal_good b p q s i k m true e = (_, terminal_matches e, omega arith)
  terminal_good b p q s i k m false e = (_, terminal_fails e, omega arith)

  throw_good : (b l i k : ℕ) (m : Mode) → ((e : ℕ) → recovers_lem g l m ≡ Some e → Good g t (b + k) (g.expr e) i On)
      → (o : Option ℕ) → recovers_lem g l m ≡ o → Good g t (b + suc k) (Throw l) i m
  throw_good b l i k m f None e = (_, throw_fails e, omega arith)
  throw_good b l i k m f (Some p) e = let q = f p e in (of_recovery l i q.0, throw_recovers e q.1, omega arith)

  here : (d : ℕ) → Later d → (k : ℕ) (x : Expr) (i : ℕ) (m : Mode) → Of g x → i ≤ n → n - i < suc d → Short g k x m → Good g t (d * c + k) x i m
  here d ih zero x i m kn le h s = absurd s
  here d ih (suc k) Empty i m kn le h s = (_, empty_matches, omega arith)
  here d ih (suc k) (Terminal a b l) i m kn le h s = terminal_good (d * c) a b l i k m (t a b i) refl
  here d ih (suc k) (Call r) i m kn le h s =
      let q = here d ih k (g.expr (g.body r)) i m (body_of g whole r kn) le h (s (g.body r) m to_body) in
      (one_deeper (of_rule r i m q.0), call_gives q.1, omega arith)
  here d ih (suc k) (Sequence a b) i m kn le h s =
      let q = here d ih k (g.expr a) i m (first_of g whole a b kn) le h (s a m to_first) in
      let y : Of g (g.expr b) = second_of g whole a b kn in
      sequence_good d k a b i m ih h y le q.0 q.1 q.2 (λ z. here d ih k (g.expr b) i m y le h (s b m (past_first z))) q.0.outcome refl
  here d ih (suc k) (Choice a b l) i m kn le h s =
      let q = here d ih k (g.expr a) i m (one_of g whole a b l kn) le h (s a m to_one) in
      choice_good d k a b l i m q.0 q.1 q.2 (here d ih k (g.expr b) i m (other_of g whole a b l kn) le h (s b m to_other)) (caught g l q.0.outcome) refl
  here d ih (suc k) (Repetition a) i m kn le h s =
      let q = here d ih k (g.expr a) i m (part_of g whole a kn) le h (s a m to_part) in
      repetition_good d k a i m ih h kn le q.0 q.1 q.2 q.0.outcome refl
  here d ih (suc k) (Predicate a) i m kn le h s =
      let q = here d ih k (g.expr a) i Off (inside_of g whole a kn) le h (s a Off to_inside) in
      (of_predicate i q.0, predicate_denies q.1, omega arith)
  here d ih (suc k) (Throw l) i m kn le h s =
      throw_good (d * c) l i k m (λ e p. here d ih k (g.expr e) i On (recovery_of g whole l m e kn p) le h (s e On (to_recovery p))) (recovers_lem g l m) refl

  later : (d : ℕ) → Later d
  later zero x m j kn le h = absurd (not-suc-le-zero h)
  later (suc d) x m j kn le h =
      let s : Short g c x m = subst (λ y. Short g c y m) kn.is (walks kn.number m kn.low) in
      rw (suc-mul d c) (here d (later d) c x j m kn le h s)

  somewhere : (e i : ℕ) (m : Mode) → e < g.N → i ≤ n → Good g t (suc n * c) (g.expr e) i m
  somewhere e i m h le = later (suc n) (g.expr e) m i (numbered g e h) le (omega arith)

module _ (g : Peg) (well : WellFormed g) (t : Text) (n : ℕ) (ends : Ends t n) where
  pub gives : (e i : ℕ) (m : Mode) → e < g.N → i ≤ n → (v : Given) × Gives g t (g.expr e) i m v × (v.depth ≤ deepest g n)
  gives e i m h le =
      let q = somewhere g well.0 well.1 (2 * g.N) (short g well.0 well.2) t n ends e i m h le in
      let e : suc n * (2 * g.N) ≡ (2 * g.N) * (n + 1) = mul_comm (suc n) (2 * g.N) ∙ ap (λ x. (2 * g.N) * x) (sym (add-one n)) in
      (q.0, q.1, omega (arith, q.2))

  pub rule_gives : (r i : ℕ) (m : Mode) → r < g.R → i ≤ n → (v : Given) × RuleGives g t r i m v × (v.depth ≤ deepest g n)
  rule_gives r i m h le = let q = gives (g.body r) i m (well.0.0 r h) le in (of_rule r i m q.0, as_its_body q.1, q.2)

  framed : (k e i : ℕ) (m : Mode) → e < g.N → i ≤ n
      → JustOne ((v : Given) × Gives g t (g.expr e) i m v × (v.depth ≤ k)) ((zs : List RulePlace) × Halts g t k (g.expr e) i m zs)
  framed k e i m h le = let q = gives e i m h le in go q.0 q.1 (dec_le q.0.depth k)
    where
      go : (v : Given) → Gives g t (g.expr e) i m v → Dec (v.depth ≤ k)
          → JustOne ((v : Given) × Gives g t (g.expr e) i m v × (v.depth ≤ k)) ((zs : List RulePlace) × Halts g t k (g.expr e) i m zs)
      go v d (yes l) = inl ((v, d, l), λ a. apart g t a.1 d l)
      go v d (no l) = let a = deeper g t d k (omega arith) in inr ((a.0, a.1), λ y. apart g t a.1 y.1 y.2)

  rule_framed : (k r i : ℕ) (m : Mode) → r < g.R → i ≤ n
      → JustOne ((v : Given) × RuleGives g t r i m v × (v.depth ≤ k)) ((zs : List RulePlace) × RuleHalts g t k r i m zs)
  rule_framed k r i m h le = go (framed k (g.body r) i m (well.0.0 r h) le)
    where
      body : (v : Given) × RuleGives g t r i m v × (v.depth ≤ k) → (v : Given) × Gives g t (g.expr (g.body r)) i m v × (v.depth ≤ k)
      body (v, as_its_body {v = w} d, l) = (w, d, l)

      go : JustOne ((v : Given) × Gives g t (g.expr (g.body r)) i m v × (v.depth ≤ k)) ((zs : List RulePlace) × RuleHalts g t k r i m zs)
          → JustOne ((v : Given) × RuleGives g t r i m v × (v.depth ≤ k)) ((zs : List RulePlace) × RuleHalts g t k r i m zs)
      go (inl ((v, d, l), f)) = inl ((of_rule r i m v, as_its_body d, l), f)
      go (inr (a, f)) = inr (a, λ y. f (body y))

  pub exactly_one : ExactlyOne g t n
  exactly_one = record {
    expression = λ e i m h le. let q = gives e i m h le in (q.0, q.1, q.2, λ w d. one g t d q.1);
    rule = λ r i m h le. let q = rule_gives r i m h le in (q.0, q.1, q.2, λ w d. one_rule g t d q.1);
    framed = framed;
    rule_framed = rule_framed;
  }

-- an accepted row means a well-formed grammar
pub accepted_well_formed : (ws : List ℕ) → Accepted ws → WellFormed (meaning ws)
accepted_well_formed ws a = (accepted_whole ws a, accepted_solid ws a, accepted_ending ws a)

-- a list's text ends with the list
pub list_ends : {E : Type 0} (fits : ℕ → ℕ → E → Bool) (xs : List E) → Ends (accepted fits xs) (length xs)
list_ends fits [] a b i e = let z : ◌≡◌ {A = ℕ} 0 1 = cc in let c : ⊥ = omega arith in absurd c
list_ends fits (x ∷ xs) a b zero e = omega arith
list_ends fits (x ∷ xs) a b (suc i) e = omega (arith, list_ends fits xs a b i e)

pub total : (E : Type 0) → Total E
total E = record {
  of_a_grammar = λ g well fits xs. exactly_one g well (accepted fits xs) (length xs) (list_ends fits xs);
  of_an_accepted_row = λ ws a fits xs. exactly_one (meaning ws) (accepted_well_formed ws a) (accepted fits xs) (length xs) (list_ends fits xs);
}
