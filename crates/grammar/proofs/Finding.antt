-- Finding the lowest expression at fault, and the masks of rules that may match nothing.
use Rattle.std.proofs.Common.{◌≡◌, ℕ, ◌+◌, ◌^◌, ◌<◌, ◌≤◌, Bool, true, false, not, ◌||◌, List, sym, refl, ap, ◌∙◌, subst, inl, inr, arith}
use mathlib.Core.Logic.{∥∥₁_map, ∥∥₁_elim}
use mathlib.Core.HLevel.{⊥_prop}
use lib.Bits.{bit_or}
use Rattle.std.proofs.Math.Bool.{or-false}
use Rattle.std.proofs.lemmas.Bool.{both_ways, cases_Bool, cases_eq, or_left, or_right, or_cases, not-true}
use Rattle.grammar.specs.declared.expr.Mode.{Mode}
use Rattle.grammar.specs.declared.expr.Mode.TheVariants.{On, Off}
use Rattle.grammar.specs.declared.expr.Expr.{Expr}
use Rattle.grammar.specs.declared.expr.Expr.TheVariants.{Empty, Terminal, Call, Sequence, Choice, Repetition, Predicate, Throw}
use Rattle.grammar.specs.declared.marks.Fact.{Fact}
use Rattle.grammar.specs.declared.marks.Fact.TheVariants.{MayMatchNothing, WalksEnd}
use Rattle.grammar.specs.Words.{bit, Peg, meaning}
use Rattle.grammar.specs.Form.{Endless, Whole, Refers}
use Rattle.grammar.specs.Questions.{WordAtFault, word_of, Lowest, Never, Tells, HollowAt}
use Rattle.grammar.specs.Marks.{Marks, Decided, Right, Mask, FaultAt, hollow, faulty, NullableRule}
use Rattle.grammar.proofs.Fields.{bit-bit_or, bit_same, bit_other}

-- the lowest number at fault is the lowest word at fault
pub lowest_word : (ws : List ℕ) (No : ℕ → Type 0) (e : ℕ) → e < (meaning ws).N → No e → ((k : ℕ) → k < e → No k → ⊥) → Lowest (WordAtFault ws No) (word_of ws e)
lowest_word ws No e l here below = record {
  no = (e, l, refl, here);
  below = λ k lt h. below h.0 (omega (arith, h.2)) h.3;
}

pub no_word : (ws : List ℕ) (No : ℕ → Type 0) → ((k : ℕ) → k < (meaning ws).N → No k → ⊥) → Never (WordAtFault ws No)
no_word ws No none w h = none h.0 h.1 h.3

module _ (g : Peg) (s : Marks) (whole : Whole g) where
  -- a repetition is hollow if its part is marked in either mode, and nothing else is
  hollow_so : Right g s → (e : ℕ) → e < g.N → (x : Expr) → g.expr e ≡ x → hollow s x ≡ true → HollowAt g e
  hollow_so r e l Empty p t = absurd (both_ways false refl t)
  hollow_so r e l (Terminal a b c) p t = absurd (both_ways false refl t)
  hollow_so r e l (Call a) p t = absurd (both_ways false refl t)
  hollow_so r e l (Sequence a b) p t = absurd (both_ways false refl t)
  hollow_so r e l (Choice a b c) p t = absurd (both_ways false refl t)
  hollow_so r e l (Repetition a) p t =
      let low : a < g.N = subst (Refers g) p (whole.1 e l) in
      elim (or_cases (s MayMatchNothing a On) (s MayMatchNothing a Off) t) [
        | inl h ↦ record { part = a; mode = On; repeats = p; nullable = r.true_marks a On low h }
        | inr h ↦ record { part = a; mode = Off; repeats = p; nullable = r.true_marks a Off low h }
      ]
  hollow_so r e l (Predicate a) p t = absurd (both_ways false refl t)
  hollow_so r e l (Throw a) p t = absurd (both_ways false refl t)

  either_mode : (f : Fact) (a : ℕ) (m : Mode) → s f a m ≡ true → (s f a On || s f a Off) ≡ true
  either_mode f a On t = or_left _ _ t
  either_mode f a Off t = or_right _ _ t

  so_hollow : Right g s → (e : ℕ) → e < g.N → HollowAt g e → hollow s (g.expr e) ≡ true
  so_hollow r e l h =
      let low : h.part < g.N = subst (Refers g) h.repeats (whole.1 e l) in
      ap (hollow s) h.repeats ∙ either_mode MayMatchNothing h.part h.mode (r.all_marks h.part h.mode low h.nullable)

  so_endless : Decided g s WalksEnd → (e : ℕ) → e < g.N → (m : Mode) → Endless g e m → (not (s WalksEnd e On) || not (s WalksEnd e Off)) ≡ true
  so_endless d e l m w = elim (cases_Bool (s WalksEnd e m)) [
    | inl t ↦ absurd ((d e m l).0 t w)
    | inr t ↦ in_mode m t
  ]
    where
      in_mode : (m : Mode) → s WalksEnd e m ≡ false → (not (s WalksEnd e On) || not (s WalksEnd e Off)) ≡ true
      in_mode On t = or_left _ _ (ap not t)
      in_mode Off t = or_right _ _ (ap not t)

  -- the marks tell which expressions are at fault
  pub faulty_tells : (f : Fact) → Decided g s f → (e : ℕ) → e < g.N → Tells (faulty g s f e) (FaultAt g f e)
  faulty_tells MayMatchNothing d e l = (hollow_so d e l (g.expr e) refl, λ t h. both_ways _ t (so_hollow d e l h))
  faulty_tells WalksEnd d e l = (
    λ t. elim (or_cases (not (s WalksEnd e On)) (not (s WalksEnd e Off)) t) [
      | inl h ↦ (On, (d e On l).1 (not-true _ h))
      | inr h ↦ (Off, (d e Off l).1 (not-true _ h))
    ],
    λ t h. both_ways _ t (so_endless d e l h.0 h.1),
  )

-- the bits below k are those of a test, and there are no others
pub record BitsBelow (test : ℕ → Bool) (mask k : ℕ) : Type 0 where
  pub same : (j : ℕ) → j < k → bit mask j ≡ test j
  pub none : (j : ℕ) → k ≤ j → bit mask j ≡ false

module _ (test : ℕ → Bool) (mask k : ℕ) (before : BitsBelow test mask k) where
  pub bit_on : test k ≡ true → BitsBelow test (bit_or mask (2 ^ k)) (k + 1)
  bit_on t = record {
    same = λ j l. elim (cases_eq k j) [
      | inl e ↦ bit-bit_or mask (2 ^ k) j ∙ or_right _ _ (subst (λ (i : ℕ). bit (2 ^ k) i ≡ true) e (bit_same k)) ∙ sym (subst (λ (i : ℕ). test i ≡ true) e t)
      | inr ne ↦ bit-bit_or mask (2 ^ k) j ∙ ap (λ (b : Bool). bit mask j || b) (bit_other k j ne) ∙ or-false _ ∙ before.same j (let d : k ≡ j → ⊥ = ne in omega arith)
    ];
    none = λ j l. bit-bit_or mask (2 ^ k) j ∙ ap (λ (b : Bool). bit mask j || b) (bit_other k j (λ e. omega arith)) ∙ or-false _ ∙ before.none j (omega arith);
  }

  pub bit_off : test k ≡ false → BitsBelow test mask (k + 1)
  bit_off t = record {
    same = λ j l. elim (cases_eq j k) [
      | inl e ↦ before.none j (omega arith) ∙ sym (ap test e ∙ t)
      | inr ne ↦ before.same j (omega arith)
    ];
    none = λ j l. before.none j (omega arith);
  }

-- a bit of the mask tells of a rule
pub mask_tells : (g : Peg) (m : Mode) (mask r : ℕ) (b : Bool) → ∥ Mask g m mask ∥₁ → r < g.R → b ≡ bit mask r → Tells b (NullableRule g m r)
mask_tells g m mask r b k l e = (
  λ t. (l, ∥∥₁_map k (λ h. (h r l).0 (sym e ∙ t))),
  λ t n. ∥∥₁_elim k ⊥_prop (λ h. ∥∥₁_elim n.1 ⊥_prop ((h r l).1 (sym e ∙ t))),
)
