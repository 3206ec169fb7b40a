-- What a reading's parts do to the rows held, put together: rows held afterwards, rows put, each once.
use Rattle.std.proofs.Common.{◌≡◌, ℕ, ◌<◌, ◌≤◌, Bool, true, false, cond, ◌⊎◌, ◌↔◌, List, [], ◌∷◌, ◌++◌, length, None, sym, refl, ◌∙◌, subst, inl, inr, arith, length-append}
use Rattle.grammar.specs.declared.expr.Mode.{Mode}
use Rattle.peg.specs.Members.{In, Distinct}
use Rattle.peg.specs.declared.results.RulePlace.{RulePlace}
use Rattle.peg.specs.Counting.{holds, learned, fresh}
use Rattle.peg.specs.Known.{Known}
use Rattle.peg.proofs.Members.{in_append, in_left, in_right}
use Rattle.peg.proofs.Counting.{by_known, learned_old, learned_new, learned_only, fresh_append, fresh_none}
use Rattle.memo.specs.declared.row.Row.{Row}
use Rattle.memo.specs.Tables.{Table, Puts}
use Rattle.reading.specs.Reads.{Setting}
use Rattle.reading.specs.Putting.{at, Held}
use Rattle.reading.specs.Counts.{HeldIn, HeldAre, KeepsAll}
use Rattle.reading.proofs.Once.{none, same_key}

distinct_both : {A : Type 0} (xs ys : List A) → Distinct xs → Distinct ys → ((z : A) → In z xs → In z ys → ⊥) → Distinct (xs ++ ys)
distinct_both [] ys d e f = e
distinct_both (x ∷ xs) ys d e f =
    (λ h. elim (in_append x xs ys h) [ inl p ↦ d.0 p | inr p ↦ f x (inl refl) p ], distinct_both xs ys d.1 e (λ z p q. f z (inr p) q))

one_at_most : (b : Bool) → cond b 0 1 ≤ 1
one_at_most true = omega arith
one_at_most false = omega arith

-- the rows ps are put from T to U while zs are completed, over a memory that keeps all, where just ks were held
pub record Exact (T U : Table) (ks zs ps : List RulePlace) : Type 0 where
  pub each_once : Distinct ps
  pub are : (z : RulePlace) → In z ps ↔ (In z zs × (In z ks → ⊥))
  pub now_held : (z : RulePlace) → In z zs → Held U z
  pub still_held : (z : RulePlace) → Held T z → Held U z

-- the same over any memory
pub record Changes (G : Setting) (T U : Table) (zs ps : List RulePlace) : Type 0 where
  pub held : (z : RulePlace) → Held U z → Held T z ⊎ In z zs
  pub least : (ks : List RulePlace) → Known G.grammar G.text ks → HeldIn T ks → fresh ks zs ≤ length ps
  pub exact : KeepsAll G → (ks : List RulePlace) → Known G.grammar G.text ks → HeldAre T ks → Exact T U ks zs ps

module _ (G : Setting) where
  abbrev Knows : List RulePlace → Type 0
  Knows ks = Known G.grammar G.text ks

  -- what is known with zs is derived and closed again
  abbrev pub Closes : List RulePlace → Type 0
  Closes zs = (ks : List RulePlace) → Knows ks → Knows (learned ks zs)

  -- nothing is put where all that would be completed is known
  pub nothing_put : (T : Table) (zs : List RulePlace) → ((ks : List RulePlace) → Knows ks → HeldIn T ks → (z : RulePlace) → In z zs → In z ks) → Changes G T T zs []
  nothing_put T zs f = record {
    held = λ z p. inl p;
    least = λ ks n p. let e = fresh_none ks zs (f ks n p) in omega arith;
    exact = λ k ks n p. let q = f ks n (λ z. (p z).0) in record {
      each_once = tt;
      are = λ z. (λ o. absurd o, λ o. o.1 (q z o.0));
      now_held = λ z o. (p z).1 (q z o);
      still_held = λ z o. o;
    };
  }

  pub unchanged : (T : Table) → Changes G T T [] []
  unchanged T = nothing_put T [] (λ ks n p z o. absurd o)

  -- held in between
  pub after : {T U : Table} {ks zs ps : List RulePlace} → ((z : RulePlace) → Held U z → Held T z ⊎ In z zs) → HeldAre T ks → Exact T U ks zs ps → HeldAre U (learned ks zs)
  after {T} {U} {ks} {zs} {ps} f p e z = (
    (λ o. elim (f z o) [ inl q ↦ learned_old ks zs z ((p z).0 q) | inr q ↦ learned_new ks zs z q ]),
    λ o. elim (learned_only ks zs z o) [ inl q ↦ e.still_held z ((p z).1 q) | inr q ↦ e.now_held z q ],
  )

  held_between : (T U : Table) (ks zs : List RulePlace) → ((z : RulePlace) → Held U z → Held T z ⊎ In z zs) → HeldIn T ks → HeldIn U (learned ks zs)
  held_between T U ks zs f p z o = elim (f z o) [ inl q ↦ learned_old ks zs z (p z q) | inr q ↦ learned_new ks zs z q ]

  exact_both : {T U W : Table} {ks zs ys ps qs : List RulePlace} → Exact T U ks zs ps → Exact U W (learned ks zs) ys qs → Exact T W ks (zs ++ ys) (ps ++ qs)
  exact_both {T} {U} {W} {ks} {zs} {ys} {ps} {qs} e f = record {
    each_once = distinct_both ps qs e.each_once f.each_once (λ z p q. ((f.are z).0 q).1 (learned_new ks zs z ((e.are z).0 p).0));
    are = λ z. (there z, back z);
    now_held = λ z o. elim (in_append z zs ys o) [ inl p ↦ f.still_held z (e.now_held z p) | inr p ↦ f.now_held z p ];
    still_held = λ z o. f.still_held z (e.still_held z o);
  }
    where
      there : (z : RulePlace) → In z (ps ++ qs) → In z (zs ++ ys) × (In z ks → ⊥)
      there z o = elim (in_append z ps qs o) [
        | inl p ↦ (in_left z zs ys ((e.are z).0 p).0, ((e.are z).0 p).1)
        | inr p ↦ (in_right z zs ys ((f.are z).0 p).0, λ k. ((f.are z).0 p).1 (learned_old ks zs z k))
      ]

      late : (z : RulePlace) → (In z zs → ⊥) → (In z ks → ⊥) → In z ys → In z (ps ++ qs)
      late z n k p = in_right z ps qs ((f.are z).1 (p, λ o. elim (learned_only ks zs z o) [ inl q ↦ k q | inr q ↦ n q ]))

      back : (z : RulePlace) → In z (zs ++ ys) × (In z ks → ⊥) → In z (ps ++ qs)
      back z (o, k) = elim (by_known zs z) [
        | inl p ↦ in_left z ps qs ((e.are z).1 (p, k))
        | inr n ↦ elim (in_append z zs ys o) [ inl p ↦ absurd (n p) | inr p ↦ late z n k p ]
      ]

  -- one part after another
  pub one_after_another : {T U W : Table} {zs ys ps qs : List RulePlace} → Closes zs → Changes G T U zs ps → Changes G U W ys qs → Changes G T W (zs ++ ys) (ps ++ qs)
  one_after_another {T} {U} {W} {zs} {ys} {ps} {qs} c e f = record {
    held = λ z o. elim (f.held z o) [ inl p ↦ elim (e.held z p) [ inl q ↦ inl q | inr q ↦ inr (in_left z zs ys q) ] | inr p ↦ inr (in_right z zs ys p) ];
    least = λ ks n p.
        let a = e.least ks n p in
        let b = f.least (learned ks zs) (c ks n) (held_between T U ks zs e.held p) in
        omega (arith, fresh_append ks zs ys, length-append ps qs);
    exact = λ k ks n p. let a = e.exact k ks n p in exact_both a (f.exact k (learned ks zs) (c ks n) (after e.held p a));
  }

  -- a row put
  module _ {T U : Table} (k i : ℕ) (m : Mode) (x : Row) (puts : Puts G.keeps G.P G.Q T k i m x U) where
    pub put_held : (z : RulePlace) → Held U z → Held T z ⊎ In z (at k i m ∷ [])
    put_held z (y, e) = elim (puts.others z.rule z.place z.mode y e) [
      | inl q ↦ inr (inl (λ j. record { rule = q.0 j; place = q.1 j; mode = q.2 j }))
      | inr q ↦ inl (y, q)
    ]

    module _ (all : KeepsAll G) (kr : k < G.grammar.R) (is : i ≤ G.size) where
      here : Held U (at k i m)
      here = (x, puts.stands (omega (arith, all.rules)) (omega (arith, all.places)))

      put_still : (z : RulePlace) → Held T z → Held U z
      put_still z (y, e) = elim (same_key z.rule z.place z.mode k i m) [
        | inl q ↦ subst (Held U) {x = at k i m} {y = z} (λ j. record { rule = sym q.0 j; place = sym q.1 j; mode = sym q.2 j }) here
        | inr n ↦ (y, puts.all all.keeps z.rule z.place z.mode n ∙ e)
      ]

      exact_put : (ks : List RulePlace) → (In (at k i m) ks → ⊥) → Exact T U ks (at k i m ∷ []) (at k i m ∷ [])
      exact_put ks n = record {
        each_once = (λ o. o, tt);
        are = λ z. ((λ o. (o, λ p. n (same_in z ks o p))), λ o. o.0);
        now_held = λ z o. subst (Held U) (sym (is_one z o)) here;
        still_held = put_still;
      }
        where
          is_one : (z : RulePlace) → In z (at k i m ∷ []) → z ≡ at k i m
          is_one z (inl e) = e
          is_one z (inr o) = absurd o

          same_in : (z : RulePlace) (ks : List RulePlace) → In z (at k i m ∷ []) → In z ks → In (at k i m) ks
          same_in z ks o p = subst (λ y. In y ks) (is_one z o) p

    -- the last of what a body completes
    pub put_last : {S : Table} {zs ps : List RulePlace} → Closes zs → k < G.grammar.R → i ≤ G.size → S k i m ≡ None → (In (at k i m) zs → ⊥)
        → Changes G S T zs ps → Changes G S U (zs ++ (at k i m ∷ [])) (ps ++ (at k i m ∷ []))
    put_last {S} {zs} {ps} c kr is no_row apart e = record {
      held = λ z o. elim (put_held z o) [ inl p ↦ elim (e.held z p) [ inl q ↦ inl q | inr q ↦ inr (in_left z zs (at k i m ∷ []) q) ] | inr p ↦ inr (in_right z zs (at k i m ∷ []) p) ];
      least = λ ks n p.
          let a = e.least ks n p in
          let b = one_at_most (holds (learned ks zs) (at k i m)) in
          omega (arith, fresh_append ks zs (at k i m ∷ []), length-append ps (at k i m ∷ []));
      exact = λ all ks n p.
          let a = e.exact all ks n p in
          exact_both a (exact_put all kr is (learned ks zs) (λ o. elim (learned_only ks zs (at k i m) o) [
            | inl q ↦ (let h = (p (at k i m)).1 q in none (let w = h.1 in cc))
            | inr q ↦ apart q
          ]));
    }
