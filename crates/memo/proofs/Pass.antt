-- One pass over the slots: what is done holds what the shift gives, and what is not yet done is as it was.
use Rattle.std.proofs.Common.{◌≡◌, ℕ, ◌+◌, ◌-◌, ◌*◌, ◌/◌, ◌%◌, ◌<◌, ◌≤◌, ◌⊎◌, List, get_or, Option, sym, ap, ◌∙◌, subst, inl, inr, arith}
use Rattle.std.proofs.lemmas.Bool.{cases_lt, cases_order, lt-ltb, le-ltb}
use Rattle.std.proofs.lemmas.Nat.{mul-le, div-add-mod', mul-add-lt, mod_below}
use Rattle.memo.specs.declared.row.Row.{Row}
use Rattle.memo.specs.Layout.{slot_row, Written, stays, After, turn}

-- after t turns over n slots, w to a place
pub record Passed (ws : List ℕ) (w P p k m t : ℕ) (vs : List ℕ) : Type 0 where
  pub done : (u : ℕ) → u < w * P → turn k m (w * P) u < t → After (slot_row ws) w P p k m u (slot_row vs u)
  pub ahead : (u : ℕ) → u < w * P → t ≤ turn k m (w * P) u → slot_row vs u ≡ slot_row ws u
  pub rest : (u : ℕ) → 8 * (w * P) ≤ u → get_or vs u 0 ≡ get_or ws u 0

-- the two directions
turn_is : (k m n t : ℕ) → ((k < m) × (turn k m n t ≡ n - 1 - t)) ⊎ ((m ≤ k) × (turn k m n t ≡ t))
turn_is k m n t = elim (cases_lt k m) [ inl h ↦ inl (h, rw (lt-ltb k m h)) | inr h ↦ inr (h, rw (le-ltb k m h)) ]

-- each slot has its turn
pub turn_below : (k m n t : ℕ) → t < n → turn k m n t < n
turn_below k m n t h = elim (turn_is k m n t) [ inl d ↦ omega (arith, d.1) | inr d ↦ omega (arith, d.1) ]

turn_back : (k m n t : ℕ) → t < n → turn k m n (turn k m n t) ≡ t
turn_back k m n t h =
    elim (turn_is k m n t) [
      | inl d ↦ elim (turn_is k m n (turn k m n t)) [ inl e ↦ omega (arith, d.1, e.1) | inr e ↦ absurd (omega (arith, d.0, e.0)) ]
      | inr d ↦ elim (turn_is k m n (turn k m n t)) [ inl e ↦ absurd (omega (arith, d.0, e.0)) | inr e ↦ omega (arith, d.1, e.1) ]
    ]

-- and no other's
turn_one : (k m n u s : ℕ) → u < n → s < n → turn k m n u ≡ turn k m n s → u ≡ s
turn_one k m n u s h l e = sym (turn_back k m n u h) ∙ ap (λ (t : ℕ). turn k m n t) e ∙ turn_back k m n s l

module _ (w P p k m : ℕ) (some : 0 < w) where
  source_below : (s j : ℕ) → j < P → j * w + s % w < w * P
  source_below s j h = mul-add-lt j w (s % w) P h (mod_below s w some)

  -- a row's old slot has its turn no sooner than its new one
  source_ahead : (s j : ℕ) → s < w * P → s / w + k ≡ j + m → j < P → turn k m (w * P) s ≤ turn k m (w * P) (j * w + s % w)
  source_ahead s j h e l =
      let whole = div-add-mod' s w in
      let below = source_below s j l in
      elim (turn_is k m (w * P) s) [
        | inl d ↦ elim (turn_is k m (w * P) (j * w + s % w)) [
          | inl f ↦ omega (arith, d.1, f.1, mul-le j w (s / w) w (omega (arith, d.0)) (omega arith))
          | inr f ↦ absurd (omega (arith, d.0, f.0))
        ]
        | inr d ↦ elim (turn_is k m (w * P) (j * w + s % w)) [
          | inl f ↦ absurd (omega (arith, d.0, f.0))
          | inr f ↦ omega (arith, d.1, f.1, mul-le (s / w) w j w (omega (arith, d.0)) (omega arith))
        ]
      ]

  module _ (ws : List ℕ) where
    -- one turn more
    pub passes : (t s : ℕ) (cur vs : List ℕ) (x : Option Row) → t < w * P → s ≡ turn k m (w * P) t
        → Passed ws w P p k m t cur → After (slot_row cur) w P p k m s x → Written cur s x vs → Passed ws w P p k m (t + 1) vs
    passes t s cur vs x h is q a wr =
        let n = w * P in
        let low : s < n = subst (λ (z : ℕ). z < n) (sym is) (turn_below k m n t h) in
        let now-turn : turn k m n s ≡ t = ap (λ (z : ℕ). turn k m n z) is ∙ turn_back k m n t h in
        let here : After (slot_row ws) w P p k m s (slot_row vs s) = record {
          before = λ b. wr.there ∙ a.before b ∙ ap (λ (o : Option Row). stays p (s / w) o) (q.ahead s low (omega arith));
          moved = λ j b comes. wr.there ∙ a.moved j b comes
              ∙ q.ahead (j * w + s % w) (source_below s j comes.2) (omega (arith, source_ahead s j low comes.1 comes.2));
          gone = λ b none. wr.there ∙ a.gone b none;
        } in
        record {
          done = λ u l d. elim (cases_order u s) [
            | inl e ↦ subst (λ (z : ℕ). After (slot_row ws) w P p k m z (slot_row vs z)) (sym e) here
            | inr o ↦
                let sooner : turn k m n u < t = elim (cases_order (turn k m n u) t) [
                  | inl e ↦ absurd (elim o [ inl b ↦ omega (arith, turn_one k m n u s l low (omega arith)) | inr b ↦ omega (arith, turn_one k m n u s l low (omega arith)) ])
                  | inr y ↦ elim y [ inl b ↦ b | inr b ↦ absurd (omega arith) ]
                ] in
                subst (λ (y : Option Row). After (slot_row ws) w P p k m u y) (sym (wr.others u o)) (q.done u l sooner)
          ];
          ahead = λ u l d. elim (cases_order u s) [
            | inl e ↦ absurd (omega (arith, ap (λ (z : ℕ). turn k m n z) e))
            | inr o ↦ wr.others u o ∙ q.ahead u l (omega arith)
          ];
          rest = λ u l. wr.rest u (inr (omega arith)) ∙ q.rest u l;
        }
