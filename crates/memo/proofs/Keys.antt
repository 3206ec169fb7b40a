-- Keys and their slots.
use Rattle.std.proofs.Common.{◌≡◌, ℕ, ◌*◌, ◌/◌, ◌%◌, ◌<◌, sym, refl, ap, ◌∙◌, arith}
use Rattle.std.proofs.lemmas.Nat.{mul-add-lt, div-mul-add, mod-mul-add}
use Rattle.grammar.specs.declared.expr.Mode.{Mode}
use Rattle.grammar.specs.declared.expr.Mode.TheVariants.{On, Off}
use Rattle.memo.specs.Tables.{Same}
use Rattle.memo.specs.Layout.{lane, slot}

pub lane_below : (Q r : ℕ) (o : Mode) → r < Q → lane r o < 2 * Q
lane_below Q r On h = omega arith
lane_below Q r Off h = omega arith

pub lane_same : (r r' : ℕ) (o o' : Mode) → lane r o ≡ lane r' o' → (r ≡ r') × (o ≡ o')
lane_same r r' On On e = (omega arith, refl)
lane_same r r' Off Off e = (omega arith, refl)
lane_same r r' On Off e = absurd (omega arith)
lane_same r r' Off On e = absurd (omega arith)

pub slot_place : (Q r i : ℕ) (o : Mode) → r < Q → slot Q r i o / (2 * Q) ≡ i
slot_place Q r i o h = div-mul-add i (2 * Q) (lane r o) (lane_below Q r o h)

pub slot_lane : (Q r i : ℕ) (o : Mode) → r < Q → slot Q r i o % (2 * Q) ≡ lane r o
slot_lane Q r i o h = mod-mul-add i (2 * Q) (lane r o) (lane_below Q r o h)

-- a slot is one key's alone
pub slot_same : (Q r i r' i' : ℕ) (o o' : Mode) → r < Q → r' < Q → slot Q r i o ≡ slot Q r' i' o' → Same r i o r' i' o'
slot_same Q r i r' i' o o' h h' e =
    let places : i ≡ i' = sym (slot_place Q r i o h) ∙ ap (λ (s : ℕ). s / (2 * Q)) e ∙ slot_place Q r' i' o' h' in
    let lanes : lane r o ≡ lane r' o' = sym (slot_lane Q r i o h) ∙ ap (λ (s : ℕ). s % (2 * Q)) e ∙ slot_lane Q r' i' o' h' in
    let both : (r ≡ r') × (o ≡ o') = lane_same r r' o o' lanes in
    (both.0, places, both.1)

-- and lies within the words
pub slot_below : (P Q r i : ℕ) (o : Mode) → r < Q → i < P → slot Q r i o < 2 * (P * Q)
slot_below P Q r i o h l = omega (arith, mul-add-lt i (2 * Q) (lane r o) P l (lane_below Q r o h))
