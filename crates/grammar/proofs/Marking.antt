-- Where marks lie in the work words: a mark that is set is read again, and no other one changes.
use Rattle.std.proofs.Common.{◌≡◌, ℕ, zero, suc, ◌+◌, ◌-◌, ◌*◌, ◌^◌, ◌<◌, ◌≤◌, min, Bool, true, false, ◌||◌, ◌≢◌, ◌⊎◌, List, length, get_or, set, replicate, sym, refl, ap, ◌∙◌, inl, inr, arith}
use lib.Bits.{bit_or}
use Rattle.std.proofs.lemmas.List.{get_or-set_same, get_or-set_other, get_or_past}
use Rattle.std.proofs.Math.Bool.{or-false}
use Rattle.std.proofs.lemmas.Bool.{cases_eq, cases_lt, or_right}
use Rattle.grammar.specs.declared.expr.Mode.{Mode}
use Rattle.grammar.specs.declared.expr.Mode.TheVariants.{On, Off}
use Rattle.grammar.specs.declared.marks.Fact.{Fact}
use Rattle.grammar.specs.declared.marks.Fact.TheVariants.{MayMatchNothing, WalksEnd}
use Rattle.grammar.specs.Words.{bit}
use Rattle.grammar.specs.Marks.{fact_bit, mode_bit, mark, Marked}
use Rattle.grammar.proofs.Fields.{bit-bit_or, bit_same, bit_other}

same_fact : (f f' : Fact) → (f' ≡ f) ⊎ (fact_bit f ≡ fact_bit f' → ⊥)
same_fact MayMatchNothing MayMatchNothing = inl refl
same_fact MayMatchNothing WalksEnd = inr (λ e. omega arith)
same_fact WalksEnd MayMatchNothing = inr (λ e. omega arith)
same_fact WalksEnd WalksEnd = inl refl

same_word : (m m' : Mode) (e e' : ℕ) → 2 * e' + mode_bit m' ≡ 2 * e + mode_bit m → (e' ≡ e) × (m' ≡ m)
same_word On On e e' p = (omega arith, refl)
same_word On Off e e' p = absurd (omega arith)
same_word Off On e e' p = absurd (omega arith)
same_word Off Off e e' p = (omega arith, refl)

pub half_low : (m : Mode) → mode_bit m ≤ 1
half_low On = omega arith
half_low Off = omega arith

pub fact_low : (f : Fact) → fact_bit f ≤ 1
fact_low MayMatchNothing = omega arith
fact_low WalksEnd = omega arith

module _ (ws : List ℕ) (f : Fact) (e : ℕ) (m : Mode) (room : 2 * e + 1 < length ws) where
  after : List ℕ
  after = set ws (2 * e + mode_bit m) (bit_or (get_or ws (2 * e + mode_bit m) 0) (2 ^ fact_bit f))

  within : 2 * e + mode_bit m < length ws
  within = let h = half_low m in omega arith

  read_here : get_or after (2 * e + mode_bit m) 0 ≡ bit_or (get_or ws (2 * e + mode_bit m) 0) (2 ^ fact_bit f)
  unfolding after
  read_here = get_or-set_same ws (2 * e + mode_bit m) _ 0 within

  here : bit (get_or after (2 * e + mode_bit m) 0) (fact_bit f) ≡ true
  here =
      ap (λ (w : ℕ). bit w (fact_bit f)) read_here
      ∙ bit-bit_or (get_or ws (2 * e + mode_bit m) 0) (2 ^ fact_bit f) (fact_bit f)
      ∙ or_right _ _ (bit_same (fact_bit f))

  beside : (f' : Fact) → (fact_bit f ≡ fact_bit f' → ⊥) → bit (get_or after (2 * e + mode_bit m) 0) (fact_bit f') ≡ bit (get_or ws (2 * e + mode_bit m) 0) (fact_bit f')
  beside f' ne =
      ap (λ (w : ℕ). bit w (fact_bit f')) read_here
      ∙ bit-bit_or (get_or ws (2 * e + mode_bit m) 0) (2 ^ fact_bit f) (fact_bit f')
      ∙ ap (λ (b : Bool). bit (get_or ws (2 * e + mode_bit m) 0) (fact_bit f') || b) (bit_other (fact_bit f) (fact_bit f') ne)
      ∙ or-false _

  elsewhere : (i : ℕ) → i ≢ 2 * e + mode_bit m → get_or after i 0 ≡ get_or ws i 0
  unfolding after
  elsewhere i ne = get_or-set_other ws (2 * e + mode_bit m) i _ 0 ne

  others : (f' : Fact) (e' : ℕ) (m' : Mode) → ((f' ≡ f) × (e' ≡ e) × (m' ≡ m)) ⊎ (mark after f' e' m' ≡ mark ws f' e' m')
  unfolding mark
  others f' e' m' = elim (cases_eq (2 * e' + mode_bit m') (2 * e + mode_bit m)) [
    | inl p ↦ elim (same_fact f f') [
      | inl q ↦ inl (q, (same_word m m' e e' p).0, (same_word m m' e e' p).1)
      | inr ne ↦ inr (ap (λ (i : ℕ). bit (get_or after i 0) (fact_bit f')) p ∙ beside f' ne ∙ ap (λ (i : ℕ). bit (get_or ws i 0) (fact_bit f')) (sym p))
    ]
    | inr ne ↦ inr (ap (λ (w : ℕ). bit w (fact_bit f')) (elsewhere (2 * e' + mode_bit m') ne))
  ]

  pub set_marked : Marked ws (set ws (2 * e + mode_bit m) (bit_or (get_or ws (2 * e + mode_bit m) 0) (2 ^ fact_bit f))) f e m
  unfolding mark after
  set_marked = record { here = here; others = others }

-- the word of a mark, where its place may stop at the machine's largest number
pub word_there : (ws : List ℕ) (e b s : ℕ) → length ws < 2 ^ 64 → s ≡ min (e + b) (2 ^ 64 - 1) → get_or ws (e + s) 0 ≡ get_or ws (2 * e + b) 0
word_there ws e b s short p = elim (cases_lt (e + b) (2 ^ 64)) [
  | inl lt ↦ let q : e + s ≡ 2 * e + b = omega arith in ap (λ (i : ℕ). get_or ws i 0) q
  | inr le ↦ get_or_past ws (e + s) 0 (omega arith) ∙ sym (get_or_past ws (2 * e + b) 0 (omega arith))
]

zeros : (n i : ℕ) → ◌≡◌ {A = ℕ} (get_or (replicate n 0) i 0) 0
zeros zero i = refl
zeros (suc n) zero = refl
zeros (suc n) (suc i) = zeros n i

no_bits : (f : Fact) → bit 0 (fact_bit f) ≡ false
no_bits MayMatchNothing = refl
no_bits WalksEnd = refl

-- blank work words hold no mark
pub no_marks : (n : ℕ) (f : Fact) (e : ℕ) (m : Mode) → mark (replicate n 0) f e m ≡ false
unfolding mark
no_marks n f e m = ap (λ (w : ℕ). bit w (fact_bit f)) (zeros n (2 * e + mode_bit m)) ∙ no_bits f

pub blank_marks : (ws : List ℕ) → ws ≡ replicate (length ws) 0 → (f : Fact) (e : ℕ) (m : Mode) → mark ws f e m ≡ false
blank_marks ws p f e m = ap (λ (xs : List ℕ). mark xs f e m) p ∙ no_marks (length ws) f e m
