-- Facts about the fields of a word.
use Rattle.std.proofs.Common.{◌≡◌, ℕ, ◌+◌, ◌-◌, ◌*◌, ◌/◌, ◌%◌, ◌^◌, ◌<◌, ◌≤◌, true, false, ◌||◌, eqb, ◌⊎◌, ap, ◌∙◌, inl, inr, lt_of_lt_of_le, arith, pow_pos, pow_mono, pow-add}
use native.Mathlib.Nat.{div-eq_of_lt, div_self}
use lib.Bits.{bit_or}
use lib.Pow.{pow-lt}
use Rattle.std.proofs.lemmas.Bool.{cases_eq, cases_lt}
use Rattle.std.proofs.lemmas.Nat.{or_shr, or_mod, shl-shr}
use Rattle.grammar.specs.Words.{bit}

-- a word has no bit beyond its width
pub bit_high : (w l k : ℕ) → w < 2 ^ k → k ≤ l → bit w l ≡ false
bit_high w l k h le = ap (λ (x : ℕ). eqb (x % 2) 1) (div-eq_of_lt (lt_of_lt_of_le h (pow_mono le)))

halves : (x : ℕ) → (x % 2 ≡ 0) ⊎ (x % 2 ≡ 1)
halves x = elim (cases_eq (x % 2) 0) [ inl e ↦ inl e | inr n ↦ inr (omega arith) ]

or_bits : (x y : ℕ) → eqb (bit_or x y % 2 ^ 1) 1 ≡ (eqb (x % 2) 1 || eqb (y % 2) 1)
or_bits x y =
    ap (λ (z : ℕ). eqb z 1) (or_mod x y 1)
    ∙ elim (halves x) [
      | inl p ↦ elim (halves y) [ inl q ↦ rw (p, q) | inr q ↦ rw (p, q) ]
      | inr p ↦ elim (halves y) [ inl q ↦ rw (p, q) | inr q ↦ rw (p, q) ]
    ]

-- united sets hold what either holds
pub bit-bit_or : (a b l : ℕ) → bit (bit_or a b) l ≡ (bit a l || bit b l)
bit-bit_or a b l = ap (λ (x : ℕ). eqb (x % 2 ^ 1) 1) (or_shr a b l) ∙ or_bits (a / 2 ^ l) (b / 2 ^ l)

-- a single bit is its own
pub bit_same : (k : ℕ) → bit (2 ^ k) k ≡ true
bit_same k = ap (λ (x : ℕ). eqb (x % 2) 1) (div_self (pow_pos k))

-- and no other
pub bit_other : (k l : ℕ) → (k ≡ l → ⊥) → bit (2 ^ k) l ≡ false
bit_other k l ne = elim (cases_lt k l) [
  | inl lt ↦ ap (λ (x : ℕ). eqb (x % 2) 1) (div-eq_of_lt (pow-lt lt))
  | inr le ↦
      let d : ℕ = k - l - 1 in
      let e : k ≡ (d + 1) + l = omega arith in
      let p : 2 ^ k ≡ 2 ^ (d + 1) * 2 ^ l = ap (λ (x : ℕ). 2 ^ x) e ∙ pow-add 2 (d + 1) l in
      let q : 2 ^ k / 2 ^ l ≡ 2 ^ (d + 1) = ap (λ (x : ℕ). x / 2 ^ l) p ∙ shl-shr (2 ^ (d + 1)) l in
      let r : 2 ^ (d + 1) ≡ 2 ^ d * 2 = pow-add 2 d 1 in
      let even : 2 ^ d * 2 % 2 ≡ 0 = omega arith in
      ap (λ (x : ℕ). eqb (x % 2) 1) (q ∙ r) ∙ ap (λ (x : ℕ). eqb x 1) even
]
