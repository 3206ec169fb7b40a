-- Known and fresh rule-places, and how many there can be.
use Rattle.std.proofs.Common.{◌≡◌, ℕ, zero, suc, ◌+◌, ◌*◌, ◌<◌, ◌≤◌, Bool, true, false, cond, T, eqb, ◌⊎◌, ◌↔◌, List, [], ◌∷◌, ◌++◌, length, sym, refl, ap, ◌∙◌, subst, inl, inr, le_of_suc-le-suc, not-suc-le-zero, add-zero, mul_assoc, suc-mul, mul_comm, eq-or-lt_of_le, zero-add, zero-mul, arith, eqb→eq, length-append}
use Rattle.grammar.specs.declared.expr.Mode.{Mode}
use Rattle.grammar.specs.declared.expr.Mode.TheVariants.{On, Off}
use Rattle.peg.specs.declared.results.RulePlace.{RulePlace}
use lib.Dec.{eqb_refl}
use Rattle.peg.specs.Members.{In, Distinct}
use Rattle.peg.specs.Completing.{Among}
use Rattle.peg.specs.Counting.{most_places, same_mode, same, holds, learned, fresh, Counting}
use Rattle.peg.proofs.Members.{in_left, in_right, no_more}

-- from two numbers that differ
never : {A : Type 0} → ◌≡◌ {A = ℕ} 0 1 → A
never e = let b : ⊥ = omega arith in absurd b

-- the test finds what is in the list
same_mode_so : (a b : Mode) → same_mode a b ≡ true → a ≡ b
same_mode_so On On e = refl
same_mode_so On Off e = never (cc)
same_mode_so Off On e = never (cc)
same_mode_so Off Off e = refl

same_mode_refl : (a : Mode) → same_mode a a ≡ true
same_mode_refl On = refl
same_mode_refl Off = refl

T-so : (b : Bool) → T b → b ≡ true
T-so true t = refl
T-so false t = absurd t

so-T : (b : Bool) → b ≡ true → T b
so-T b e = subst T (sym e) tt

both : (a b : Bool) → cond a b false ≡ true → (a ≡ true) × (b ≡ true)
both true b e = (refl, e)
both false b e = never (cc)

same_so : (a b : RulePlace) → same a b ≡ true → a ≡ b
same_so a b e =
    let p = both (eqb a.rule b.rule) _ e in
    let q = both (eqb a.place b.place) _ p.1 in
    let r : a.rule ≡ b.rule = eqb→eq a.rule b.rule (so-T _ p.0) in
    let s : a.place ≡ b.place = eqb→eq a.place b.place (so-T _ q.0) in
    let m : a.mode ≡ b.mode = same_mode_so a.mode b.mode q.1 in
    λ k. record { rule = r k; place = s k; mode = m k }

same_refl : (a : RulePlace) → same a a ≡ true
same_refl a = rw (T-so _ (eqb_refl a.rule), T-so _ (eqb_refl a.place)) (same_mode_refl a.mode)

either : (a b : Bool) → cond a true b ≡ true → (a ≡ true) ⊎ (b ≡ true)
either true b e = inl refl
either false b e = inr e

or_left : (a b : Bool) → a ≡ true → cond a true b ≡ true
or_left a b e = rw e

or_right : (a b : Bool) → b ≡ true → cond a true b ≡ true
or_right true b e = refl
or_right false b e = e

pub holds_in : (ks : List RulePlace) (z : RulePlace) → holds ks z ≡ true → In z ks
holds_in [] z e = never (cc)
holds_in (x ∷ xs) z e = go (either (same z x) (holds xs z) e) (holds_in xs z)
  where
    go : (same z x ≡ true) ⊎ (holds xs z ≡ true) → (holds xs z ≡ true → In z xs) → (z ≡ x) ⊎ In z xs
    go (inl p) f = inl (same_so z x p)
    go (inr p) f = inr (f p)

pub in_holds : (ks : List RulePlace) (z : RulePlace) → In z ks → holds ks z ≡ true
in_holds [] z h = elim h [ ]
in_holds (x ∷ xs) z (inl e) = or_left (same z x) (holds xs z) (subst (λ y. same z y ≡ true) e (same_refl z))
in_holds (x ∷ xs) z (inr h) = or_right (same z x) (holds xs z) (in_holds xs z h)

pub out_holds : (ks : List RulePlace) (z : RulePlace) → holds ks z ≡ false → In z ks → ⊥
out_holds ks z e h = let q = in_holds ks z h in never (cc)

-- by whether z is known
pub by_known : (ks : List RulePlace) (z : RulePlace) → In z ks ⊎ (In z ks → ⊥)
by_known ks z = go (holds ks z) refl
  where
    go : (b : Bool) → holds ks z ≡ b → In z ks ⊎ (In z ks → ⊥)
    go true e = inl (holds_in ks z e)
    go false e = inr (out_holds ks z e)

-- what is known afterwards
pub learned_old : (ks zs : List RulePlace) (z : RulePlace) → In z ks → In z (learned ks zs)
learned_old ks [] z h = h
learned_old ks (x ∷ xs) z h = go (holds ks x) (learned_old ks xs z h) (learned_old (x ∷ ks) xs z (inr h))
  where
    go : (b : Bool) → In z (learned ks xs) → In z (learned (x ∷ ks) xs) → In z (cond b (learned ks xs) (learned (x ∷ ks) xs))
    go true p q = p
    go false p q = q

pub learned_new : (ks zs : List RulePlace) (z : RulePlace) → In z zs → In z (learned ks zs)
learned_new ks [] z h = elim h [ ]
learned_new ks (x ∷ xs) z (inl e) = go (holds ks x) refl
  where
    go : (b : Bool) → holds ks x ≡ b → In z (cond b (learned ks xs) (learned (x ∷ ks) xs))
    go true p = learned_old ks xs z (subst (λ y. In y ks) (sym e) (holds_in ks x p))
    go false p = learned_old (x ∷ ks) xs z (inl e)
learned_new ks (x ∷ xs) z (inr h) = go (holds ks x) (learned_new ks xs z h) (learned_new (x ∷ ks) xs z h)
  where
    go : (b : Bool) → In z (learned ks xs) → In z (learned (x ∷ ks) xs) → In z (cond b (learned ks xs) (learned (x ∷ ks) xs))
    go true p q = p
    go false p q = q

pub learned_only : (ks zs : List RulePlace) (z : RulePlace) → In z (learned ks zs) → In z ks ⊎ In z zs
learned_only ks [] z h = inl h
learned_only ks (x ∷ xs) z h = go (holds ks x) h (learned_only ks xs z) (learned_only (x ∷ ks) xs z)
  where
    go : (b : Bool) → In z (cond b (learned ks xs) (learned (x ∷ ks) xs)) → (In z (learned ks xs) → In z ks ⊎ In z xs) → (In z (learned (x ∷ ks) xs) → In z (x ∷ ks) ⊎ In z xs)
        → In z ks ⊎ ((z ≡ x) ⊎ In z xs)
    go true p f f' = elim (f p) [ inl q ↦ inl q | inr q ↦ inr (inr q) ]
    go false p f f' = elim (f' p) [ inl (inl q) ↦ inr (inl q) | inl (inr q) ↦ inl q | inr q ↦ inr (inr q) ]

pub learned_distinct : (ks zs : List RulePlace) → Distinct ks → Distinct (learned ks zs)
learned_distinct ks [] d = d
learned_distinct ks (x ∷ xs) d = go (holds ks x) refl (learned_distinct ks xs d) (learned_distinct (x ∷ ks) xs)
  where
    go : (b : Bool) → holds ks x ≡ b → Distinct (learned ks xs) → (Distinct (x ∷ ks) → Distinct (learned (x ∷ ks) xs)) → Distinct (cond b (learned ks xs) (learned (x ∷ ks) xs))
    go true e p f = p
    go false e p f = f (out_holds ks x e, d)

pub learned_grows : (ks zs : List RulePlace) → length (learned ks zs) ≡ length ks + fresh ks zs
learned_grows ks [] = sym (add-zero (length ks))
learned_grows ks (x ∷ xs) = go (holds ks x) (learned_grows ks xs) (learned_grows (x ∷ ks) xs)
  where
    go : (b : Bool) → length (learned ks xs) ≡ length ks + fresh ks xs → length (learned (x ∷ ks) xs) ≡ suc (length ks) + fresh (x ∷ ks) xs
        → length (cond b (learned ks xs) (learned (x ∷ ks) xs)) ≡ length ks + cond b (fresh ks xs) (suc (fresh (x ∷ ks) xs))
    go true p q = p
    go false p q = omega arith

-- the fresh ones
pub news : List RulePlace → List RulePlace → List RulePlace
news ks [] = []
news ks (x ∷ xs) = cond (holds ks x) (news ks xs) (x ∷ news (x ∷ ks) xs)

length_news : (ks zs : List RulePlace) → length (news ks zs) ≡ fresh ks zs
unfolding news
length_news ks [] = refl
length_news ks (x ∷ xs) = go (holds ks x) (length_news ks xs) (length_news (x ∷ ks) xs)
  where
    go : (b : Bool) → length (news ks xs) ≡ fresh ks xs → length (news (x ∷ ks) xs) ≡ fresh (x ∷ ks) xs
        → length (cond b (news ks xs) (x ∷ news (x ∷ ks) xs)) ≡ cond b (fresh ks xs) (suc (fresh (x ∷ ks) xs))
    go true p q = p
    go false p q = ap suc q

news_in : (ks zs : List RulePlace) (z : RulePlace) → In z (news ks zs) → In z zs × (In z ks → ⊥)
unfolding news
news_in ks [] z h = absurd h
news_in ks (x ∷ xs) z h = go (holds ks x) refl h (news_in ks xs z) (news_in (x ∷ ks) xs z)
  where
    go : (b : Bool) → holds ks x ≡ b → In z (cond b (news ks xs) (x ∷ news (x ∷ ks) xs)) → (In z (news ks xs) → In z xs × (In z ks → ⊥)) → (In z (news (x ∷ ks) xs) → In z xs × (In z (x ∷ ks) → ⊥))
        → ((z ≡ x) ⊎ In z xs) × (In z ks → ⊥)
    go true e p f f' = let q = f p in (inr q.0, q.1)
    go false e (inl p) f f' = (inl p, λ n. out_holds ks x e (subst (λ y. In y ks) p n))
    go false e (inr p) f f' = let q = f' p in (inr q.0, λ n. q.1 (inr n))

in_news : (ks zs : List RulePlace) (z : RulePlace) → In z zs → (In z ks → ⊥) → In z (news ks zs)
unfolding news
in_news ks [] z h n = absurd h
in_news ks (x ∷ xs) z h n = go (holds ks x) refl h (in_news ks xs z) (in_news (x ∷ ks) xs z) (by_known (x ∷ []) z)
  where
    go : (b : Bool) → holds ks x ≡ b → (z ≡ x) ⊎ In z xs → (In z xs → (In z ks → ⊥) → In z (news ks xs)) → (In z xs → (In z (x ∷ ks) → ⊥) → In z (news (x ∷ ks) xs))
        → In z (x ∷ []) ⊎ (In z (x ∷ []) → ⊥) → In z (cond b (news ks xs) (x ∷ news (x ∷ ks) xs))
    go true e (inl p) f f' o = absurd (n (subst (λ y. In y ks) (sym p) (holds_in ks x e)))
    go true e (inr p) f f' o = f p n
    go false e p f f' (inl (inl q)) = inl q
    go false e p f f' (inl (inr q)) = absurd q
    go false e (inl p) f f' (inr q) = inl p
    go false e (inr p) f f' (inr q) = inr (f' p (λ s. elim s [ inl y ↦ q (inl y) | inr y ↦ n y ]))

news_distinct : (ks zs : List RulePlace) → Distinct (news ks zs)
unfolding news
news_distinct ks [] = tt
news_distinct ks (x ∷ xs) = go (holds ks x) (news_distinct ks xs) (news_distinct (x ∷ ks) xs)
  where
    go : (b : Bool) → Distinct (news ks xs) → Distinct (news (x ∷ ks) xs) → Distinct (cond b (news ks xs) (x ∷ news (x ∷ ks) xs))
    go true p q = p
    go false p q = (λ h. (news_in (x ∷ ks) xs x h).1 (inl refl), q)

abbrev FreshOnes : List RulePlace → List RulePlace → List RulePlace → Type 0
FreshOnes ks zs ns = (z : RulePlace) → In z ns ↔ (In z zs × (In z ks → ⊥))

fresh_ones : (ks zs : List RulePlace) → FreshOnes ks zs (news ks zs)
fresh_ones ks zs z = (news_in ks zs z, λ p. in_news ks zs z p.0 p.1)

pub fresh_exact : (ks zs ns : List RulePlace) → Distinct ns → FreshOnes ks zs ns → length ns ≡ fresh ks zs
fresh_exact ks zs ns d f =
    let a : length ns ≤ length (news ks zs) = no_more ns (news ks zs) d (λ z p. let q = (f z).0 p in in_news ks zs z q.0 q.1) in
    let b : length (news ks zs) ≤ length ns = no_more (news ks zs) ns (news_distinct ks zs) (λ z p. (f z).1 (news_in ks zs z p)) in
    omega (arith, length_news ks zs)

-- what counts is which rule-places were known, and which were completed
pub fresh_same : (ks ls zs ys : List RulePlace) → ((z : RulePlace) → In z ks ↔ In z ls) → ((z : RulePlace) → In z zs ↔ In z ys) → fresh ks zs ≡ fresh ls ys
fresh_same ks ls zs ys f h =
    sym (length_news ks zs)
    ∙ fresh_exact ls ys (news ks zs) (news_distinct ks zs) λ z. (
      (λ p. let q = news_in ks zs z p in ((h z).0 q.0, λ n. q.1 ((f z).1 n))),
      (λ p. in_news ks zs z ((h z).1 p.0) (λ n. p.1 ((f z).0 n))),
    )

-- the more were known, the fewer are fresh
pub fresh_fewer : (ks ls zs : List RulePlace) → ((z : RulePlace) → In z ks → In z ls) → fresh ls zs ≤ fresh ks zs
fresh_fewer ks ls zs f =
    let h = no_more (news ls zs) (news ks zs) (news_distinct ls zs) (λ z p. let q = news_in ls zs z p in in_news ks zs z q.0 (λ n. q.1 (f z n))) in
    omega (arith, length_news ks zs, length_news ls zs)

pub learned_append : (ks xs ys : List RulePlace) → learned ks (xs ++ ys) ≡ learned (learned ks xs) ys
learned_append ks [] ys = refl
learned_append ks (x ∷ xs) ys = go (holds ks x) (learned_append ks xs ys) (learned_append (x ∷ ks) xs ys)
  where
    go : (b : Bool) → learned ks (xs ++ ys) ≡ learned (learned ks xs) ys → learned (x ∷ ks) (xs ++ ys) ≡ learned (learned (x ∷ ks) xs) ys
        → cond b (learned ks (xs ++ ys)) (learned (x ∷ ks) (xs ++ ys)) ≡ learned (cond b (learned ks xs) (learned (x ∷ ks) xs)) ys
    go true p q = p
    go false p q = q

pub fresh_append : (ks xs ys : List RulePlace) → fresh ks (xs ++ ys) ≡ fresh ks xs + fresh (learned ks xs) ys
fresh_append ks [] ys = sym (zero-add (fresh ks ys))
fresh_append ks (x ∷ xs) ys = go (holds ks x) (fresh_append ks xs ys) (fresh_append (x ∷ ks) xs ys)
  where
    go : (b : Bool) → fresh ks (xs ++ ys) ≡ fresh ks xs + fresh (learned ks xs) ys → fresh (x ∷ ks) (xs ++ ys) ≡ fresh (x ∷ ks) xs + fresh (learned (x ∷ ks) xs) ys
        → cond b (fresh ks (xs ++ ys)) (suc (fresh (x ∷ ks) (xs ++ ys))) ≡ cond b (fresh ks xs) (suc (fresh (x ∷ ks) xs)) + fresh (cond b (learned ks xs) (learned (x ∷ ks) xs)) ys
    go true p q = p
    go false p q = omega arith

-- nothing is new where all is known
module _ (ks : List RulePlace) where
  abbrev AllKnown : List RulePlace → Type 0
  AllKnown zs = (z : RulePlace) → In z zs → In z ks

  pub learned_none : (zs : List RulePlace) → AllKnown zs → learned ks zs ≡ ks
  learned_none [] h = refl
  learned_none (x ∷ xs) h = rw (in_holds ks x (h x (inl refl))) (learned_none xs (λ z p. h z (inr p)))

  pub fresh_none : (zs : List RulePlace) → AllKnown zs → fresh ks zs ≡ 0
  fresh_none [] h = refl
  fresh_none (x ∷ xs) h = rw (in_holds ks x (h x (inl refl))) (fresh_none xs (λ z p. h z (inr p)))

-- all rule-places of rule r at places below c
at_rule : ℕ → ℕ → List RulePlace
at_rule r zero = []
at_rule r (suc c) = record { rule = r; place = c; mode = On } ∷ (record { rule = r; place = c; mode = Off } ∷ at_rule r c)

length_rule : (r c : ℕ) → length (at_rule r c) ≡ 2 * c
unfolding at_rule
length_rule r zero = refl
length_rule r (suc c) = omega (arith, length_rule r c)

in_rule : (r c i : ℕ) (m : Mode) → i < c → In (record { rule = r; place = i; mode = m }) (at_rule r c)
unfolding at_rule
in_rule r zero i m h = absurd (not-suc-le-zero h)
in_rule r (suc c) i m h = go m (eq-or-lt_of_le (le_of_suc-le-suc h)) (in_rule r c i m)
  where
    go : (m : Mode) → (i ≡ c) ⊎ (i < c) → (i < c → In (record { rule = r; place = i; mode = m }) (at_rule r c))
        → In (record { rule = r; place = i; mode = m }) (record { rule = r; place = c; mode = On } ∷ (record { rule = r; place = c; mode = Off } ∷ at_rule r c))
    go On (inl e) f = inl (λ k. record { rule = r; place = e k; mode = On })
    go Off (inl e) f = inr (inl (λ k. record { rule = r; place = e k; mode = Off }))
    go m (inr l) f = inr (inr (f l))

-- of all rules below R
all_places : ℕ → ℕ → List RulePlace
all_places zero c = []
all_places (suc R) c = at_rule R c ++ all_places R c

length_all : (R c : ℕ) → length (all_places R c) ≡ R * (2 * c)
unfolding all_places
length_all zero c = sym (zero-mul (2 * c))
length_all (suc R) c = rw (length-append (at_rule R c) (all_places R c), suc-mul R (2 * c)) (omega (arith, length_rule R c, length_all R c))

in_all : (R c : ℕ) (z : RulePlace) → z.rule < R → z.place < c → In z (all_places R c)
unfolding all_places
in_all zero c z h l = absurd (not-suc-le-zero h)
in_all (suc R) c z h l = go (eq-or-lt_of_le (le_of_suc-le-suc h)) (in_all R c z)
  where
    go : (z.rule ≡ R) ⊎ (z.rule < R) → (z.rule < R → z.place < c → In z (all_places R c)) → In z (at_rule R c ++ all_places R c)
    go (inl e) f = in_left z (at_rule R c) (all_places R c)
        (subst (λ y. In y (at_rule R c)) (λ k. record { rule = sym e k; place = z.place; mode = z.mode }) (in_rule R c z.place z.mode l))
    go (inr q) f = in_right z (at_rule R c) (all_places R c) (f q l)

pub most : (R n : ℕ) (zs : List RulePlace) → Distinct zs → ((z : RulePlace) → In z zs → Among R n z) → length zs ≤ most_places R n
most R n zs d f =
    let h = no_more zs (all_places R (n + 1)) d (λ z p. in_all R (n + 1) z (f z p).0 (omega (arith, (f z p).1))) in
    let e : R * (2 * (n + 1)) ≡ 2 * R * (n + 1) = sym (mul_assoc R 2 (n + 1)) ∙ ap (λ x. x * (n + 1)) (mul_comm R 2) in
    omega (arith, length_all R (n + 1))

pub most_fresh : (R n : ℕ) (ks zs : List RulePlace) → ((z : RulePlace) → In z zs → Among R n z) → fresh ks zs ≤ most_places R n
most_fresh R n ks zs f =
    let h = most R n (news ks zs) (news_distinct ks zs) (λ z p. f z (news_in ks zs z p).0) in
    omega (arith, length_news ks zs)

pub counting : Counting
counting = record {
  learns = λ ks zs z. (learned_only ks zs z, λ p. elim p [ inl q ↦ learned_old ks zs z q | inr q ↦ learned_new ks zs z q ]);
  stays_distinct = learned_distinct;
  grows = learned_grows;
  counts = fresh_exact;
  counted = λ ks zs. (news ks zs, news_distinct ks zs, fresh_ones ks zs, length_news ks zs);
  same_count = fresh_same;
  fewer = fresh_fewer;
  learns_on = learned_append;
  counts_on = fresh_append;
  most = most;
  most_fresh = most_fresh;
}
