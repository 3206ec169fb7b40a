-- From slots to the table: what a write, a blanking and a pass over the slots do to the rows.
use Rattle.std.proofs.Common.{◌≡◌, ℕ, ◌+◌, ◌-◌, ◌*◌, ◌/◌, ◌<◌, ◌≤◌, true, ltb, leb, ◌⊎◌, List, get_or, Some, None, Option, sym, ap, ◌∙◌, subst, inl, inr, arith}
use Rattle.std.proofs.lemmas.Bool.{cases_lt, cases_order, lt-ltb, le-ltb, le-leb, leb-true, and_right}
use Rattle.std.proofs.lemmas.Option.{none-some, cond_some}
use Rattle.grammar.specs.declared.expr.Mode.{Mode}
use Rattle.memo.specs.declared.row.Row.{Row}
use Rattle.memo.specs.Tables.{Same, Empty, Puts, Shifts}
use Rattle.memo.specs.Layout.{slot_row, Written, slot, rows, stays, Comes, After}
use Rattle.memo.proofs.Packing.{unpacked_none}
use Rattle.memo.proofs.Keys.{slot_same, slot_below, slot_place, slot_lane}

-- a key is inside or outside
pub inside : (P Q r i : ℕ) → ((r < Q) × (i < P)) ⊎ ((Q ≤ r) ⊎ (P ≤ i))
inside P Q r i =
    elim (cases_lt r Q) [ inl h ↦ elim (cases_lt i P) [ inl l ↦ inl (h, l) | inr l ↦ inr (inr l) ] | inr h ↦ inr (inl h) ]

module _ (ws : List ℕ) (P Q r i : ℕ) (o : Mode) where
  pub rows_in : r < Q → i < P → rows ws P Q r i o ≡ slot_row ws (slot Q r i o)
  rows_in h l = rw (lt-ltb r Q h, lt-ltb i P l)

  pub rows_out : (Q ≤ r) ⊎ (P ≤ i) → rows ws P Q r i o ≡ None
  rows_out (inl h) = rw (le-ltb r Q h)
  rows_out (inr l) = rw (and_right (ltb r Q) (ltb i P) (le-ltb i P l))

  pub rows_some : (x : Row) → rows ws P Q r i o ≡ Some x → (r < Q) × (i < P) × (slot_row ws (slot Q r i o) ≡ Some x)
  rows_some x e =
      elim (inside P Q r i) [
        | inl h ↦ (h.0, h.1, sym (rows_in h.0 h.1) ∙ e)
        | inr h ↦ absurd (none-some x (sym (rows_out h) ∙ e))
      ]

pub rows_same : (ws vs : List ℕ) (P Q r i : ℕ) (o : Mode) → (r < Q → i < P → slot_row vs (slot Q r i o) ≡ slot_row ws (slot Q r i o))
    → rows vs P Q r i o ≡ rows ws P Q r i o
rows_same ws vs P Q r i o h =
    elim (inside P Q r i) [
      | inl l ↦ rows_in vs P Q r i o l.0 l.1 ∙ h l.0 l.1 ∙ sym (rows_in ws P Q r i o l.0 l.1)
      | inr l ↦ rows_out vs P Q r i o l ∙ sym (rows_out ws P Q r i o l)
    ]

-- words that are zero hold no row
pub empty_at : (ws : List ℕ) (P Q : ℕ) → ((u : ℕ) → u < 16 * (P * Q) → get_or ws u 0 ≡ 0) → Empty (rows ws P Q)
empty_at ws P Q zeros r i o =
    elim (inside P Q r i) [
      | inl l ↦ rows_in ws P Q r i o l.0 l.1 ∙ unpacked_none _ (let z = zeros (8 * slot Q r i o + 0) (omega (arith, slot_below P Q r i o l.0 l.1)) in rw z)
      | inr l ↦ rows_out ws P Q r i o l
    ]

-- a write of a key's slot is a put that drops nothing
pub puts_at : (ws vs : List ℕ) (P Q r i : ℕ) (o : Mode) (x : Row) → r < Q → i < P → Written ws (slot Q r i o) (Some x) vs
    → Puts true P Q (rows ws P Q) r i o x (rows vs P Q)
puts_at ws vs P Q r i o x h l w =
    let all : (r' i' : ℕ) (o' : Mode) → (Same r' i' o' r i o → ⊥) → rows vs P Q r' i' o' ≡ rows ws P Q r' i' o' = λ r' i' o' n.
    rows_same ws vs P Q r' i' o' (λ h' l'. elim (cases_order (slot Q r' i' o') (slot Q r i o)) [
      | inl e ↦ absurd (n (slot_same Q r' i' r i o' o h' h e))
      | inr a ↦ w.others (slot Q r' i' o') a
    ]) in
    record {
      stands = λ _ _. rows_in vs P Q r i o h l ∙ w.there;
      others = λ r' i' o' y e. let got = rows_some vs P Q r' i' o' y e in
          elim (cases_order (slot Q r' i' o') (slot Q r i o)) [
            | inl s ↦ inl (slot_same Q r' i' r i o' o got.0 h s)
            | inr a ↦ inr (rows_in ws P Q r' i' o' got.0 got.1 ∙ sym (w.others (slot Q r' i' o') a) ∙ got.2)
          ];
      outside = λ out r' i' o'. absurd (elim out [ inl a ↦ omega arith | inr b ↦ omega arith ]);
      all = λ _. all;
    }

stays_some : (p i : ℕ) (o : Option Row) (x : Row) → stays p i o ≡ Some x → (o ≡ Some x) × (i + x.reach ≤ p)
stays_some p i None x e = absurd (none-some x e)
stays_some p i (Some y) x e =
    let s = cond_some (leb (i + y.reach) p) y x e in (ap Some s.1, subst (λ (z : Row). i + z.reach ≤ p) s.1 (leb-true (i + y.reach) p s.0))

stays_kept : (p i : ℕ) (x : Row) → i + x.reach ≤ p → stays p i (Some x) ≡ Some x
stays_kept p i x h = rw (le-leb (i + x.reach) p h)

-- where a row could come from, if anywhere
origin : (P p k m i : ℕ) → p ≤ i → Comes P p k m i None ⊎ ((j : ℕ) × Comes P p k m i (Some j))
origin P p k m i h =
    elim (cases_lt i (p + m)) [
      | inl l ↦ inl (λ j a b. absurd (omega arith))
      | inr l ↦ elim (cases_lt (i - m + k) P) [
        | inl s ↦ inr (i - m + k, (omega arith, omega arith, s))
        | inr s ↦ inl (λ j a b. omega arith)
      ]
    ]

-- slots that hold what a shift gives make a shift of the table that drops only what it must
pub shifts_at : (ws vs : List ℕ) (P Q p k m : ℕ) → ((u : ℕ) → u < 2 * (P * Q) → After (slot_row ws) (2 * Q) P p k m u (slot_row vs u))
    → Shifts true P p k m (rows ws P Q) (rows vs P Q)
shifts_at ws vs P Q p k m all =
    let w = 2 * Q in
    let F = slot_row ws in
    let at : (r i : ℕ) (o : Mode) → r < Q → i < P → After F w P p k m (slot Q r i o) (slot_row vs (slot Q r i o)) = λ r i o h l. all (slot Q r i o) (slot_below P Q r i o h l) in
    record {
      only = λ r i o x e.
          let got = rows_some vs P Q r i o x e in
          let s = slot Q r i o in
          let a = at r i o got.0 got.1 in
          let place : s / w ≡ i = slot_place Q r i o got.0 in
          elim (cases_lt i p) [
            | inl b ↦
                let kept = stays_some p (s / w) (F s) x (sym (a.before (omega arith)) ∙ got.2) in
                inl (record { before = b; untouched = omega (arith, kept.1); held = rows_in ws P Q r i o got.0 got.1 ∙ kept.0 })
            | inr b ↦ elim (origin P p k m (s / w) (omega arith)) [
              | inl none ↦ absurd (none-some x (sym (a.gone (omega arith) none) ∙ got.2))
              | inr some ↦
                  let j = some.0 in
                  let here : F (slot Q r j o) ≡ Some x = ap (λ (l : ℕ). F (j * w + l)) (sym (slot_lane Q r i o got.0)) ∙ sym (a.moved j (omega arith) some.1) ∙ got.2 in
                  inr (record {
                    from = j;
                    after = some.1.0;
                    along = omega (arith, some.1.1);
                    within = got.1;
                    held = rows_in ws P Q r j o got.0 some.1.2 ∙ here;
                  })
            ]
          ];
      all = λ _ r i o x may. elim may [
        | inl y ↦
            let got = rows_some ws P Q r i o x y.held in
            let place : slot Q r i o / w ≡ i = slot_place Q r i o got.0 in
            rows_in vs P Q r i o got.0 got.1
            ∙ (at r i o got.0 got.1).before (omega (arith, y.before))
            ∙ ap (λ (b : Option Row). stays p (slot Q r i o / w) b) got.2
            ∙ stays_kept p (slot Q r i o / w) x (omega (arith, y.untouched))
        | inr y ↦
            let got = rows_some ws P Q r y.from o x y.held in
            let place : slot Q r i o / w ≡ i = slot_place Q r i o got.0 in
            rows_in vs P Q r i o got.0 y.within
            ∙ (at r i o got.0 y.within).moved y.from (omega (arith, y.after, y.along)) (y.after, omega (arith, y.along), got.1)
            ∙ ap (λ (l : ℕ). F (y.from * w + l)) (slot_lane Q r i o got.0)
            ∙ got.2
      ];
    }
