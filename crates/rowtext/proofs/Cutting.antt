-- The first piece of a text, by where its first separator stands.
use Rattle.std.proofs.Common.{◌≡◌, ℕ, zero, suc, ◌<◌, ◌≤◌, Bool, true, false, cond, eqb, List, [], ◌∷◌, ◌++◌, length, get_or, take, drop, Some, sym, refl, ap, ◌∙◌, arith}
use Rattle.std.proofs.lemmas.Bool.{eq-eqb, ne_eqb, cond-true, cond-false}
use Rattle.rowtext.specs.Pieces.{onto, pieces, first, after, cut}

-- no byte before place n is the separator
abbrev pub Clear : ℕ → List ℕ → ℕ → Type 0
Clear s bs n = (k : ℕ) → k < n → get_or bs k 0 ≡ s → ⊥

clear_rest : (s b : ℕ) (bs : List ℕ) (n : ℕ) → Clear s (b ∷ bs) (suc n) → Clear s bs n
clear_rest s b bs n clear k below = clear (suc k) (omega arith)

-- a choice by the first byte
module _ {X : Type 0} (s b : ℕ) (x y : X) where
  at_separator : b ≡ s → cond (eqb b s) x y ≡ x
  at_separator e = cond-true (eqb b s) x y (eq-eqb b s e)

  at_other : (b ≡ s → ⊥) → cond (eqb b s) x y ≡ y
  at_other ne = cond-false (eqb b s) x y (ne_eqb b s ne)

module _ (s b : ℕ) (bs : List ℕ) where
  pub pieces_separator : b ≡ s → pieces s (b ∷ bs) ≡ [] ∷ pieces s bs
  pieces_separator e = at_separator s b ([] ∷ pieces s bs) (onto b (pieces s bs)) e

  pub pieces_other : (b ≡ s → ⊥) → pieces s (b ∷ bs) ≡ onto b (pieces s bs)
  pieces_other ne = at_other s b ([] ∷ pieces s bs) (onto b (pieces s bs)) ne

-- a piece without separators, and then a separator
pub piece_first : (s : ℕ) (text bs : List ℕ) → Clear s text (length text) → pieces s (text ++ s ∷ bs) ≡ text ∷ pieces s bs
piece_first s [] bs clear = pieces_separator s s bs refl
piece_first s (t ∷ ts) bs clear =
    pieces_other s t (ts ++ s ∷ bs) (clear 0 (omega arith)) ∙ ap (onto t) (piece_first s ts bs (clear_rest s t ts (length ts) clear))

-- the first separator stands at place n
parts_at : (s : ℕ) (bs : List ℕ) (n : ℕ) → n < length bs → Clear s bs n → get_or bs n 0 ≡ s → (first s bs ≡ take n bs) × (after s bs ≡ drop (suc n) bs)
parts_at s [] n low clear here = absurd (omega arith)
parts_at s (b ∷ bs) zero low clear here = (at_separator s b [] (b ∷ first s bs) here, at_separator s b bs (after s bs) here)
parts_at s (b ∷ bs) (suc n) low clear here =
    let other = clear 0 (omega arith) in
    let p = parts_at s bs n (omega arith) (clear_rest s b bs n clear) here in
    (at_other s b [] (b ∷ first s bs) other ∙ ap (λ xs. b ∷ xs) p.0, at_other s b bs (after s bs) other ∙ p.1)

-- there is no separator
parts_all : (s : ℕ) (bs : List ℕ) → Clear s bs (length bs) → (first s bs ≡ bs) × (after s bs ≡ [])
parts_all s [] clear = (refl, refl)
parts_all s (b ∷ bs) clear =
    let other = clear 0 (omega arith) in
    let p = parts_all s bs (clear_rest s b bs (length bs) clear) in
    (at_other s b [] (b ∷ first s bs) other ∙ ap (λ xs. b ∷ xs) p.0, at_other s b bs (after s bs) other ∙ p.1)

cut_parts : (s : ℕ) (bs : List ℕ) → 0 < length bs → cut s bs ≡ Some (first s bs, after s bs)
cut_parts s [] some = absurd (omega arith)
cut_parts s (b ∷ bs) some = refl

pub cut_at : (s : ℕ) (bs : List ℕ) (n : ℕ) → n < length bs → Clear s bs n → get_or bs n 0 ≡ s → Some (take n bs, drop (suc n) bs) ≡ cut s bs
cut_at s bs n low clear here =
    let p = parts_at s bs n low clear here in sym (cut_parts s bs (omega arith) ∙ (λ i. Some (p.0 i, p.1 i)))

pub cut_all : (s : ℕ) (bs : List ℕ) → 0 < length bs → Clear s bs (length bs) → Some (bs, []) ≡ cut s bs
cut_all s bs some clear = let p = parts_all s bs clear in sym (cut_parts s bs some ∙ (λ i. Some (p.0 i, p.1 i)))

pieces_by : (t : Bool) (s b : ℕ) (bs : List ℕ) → onto b (pieces s bs) ≡ (b ∷ first s bs) ∷ pieces s (after s bs)
    → cond t ([] ∷ pieces s bs) (onto b (pieces s bs)) ≡ cond t [] (b ∷ first s bs) ∷ pieces s (cond t bs (after s bs))
pieces_by true s b bs e = refl
pieces_by false s b bs e = e

pieces_cut : (s b : ℕ) (bs : List ℕ) → pieces s (b ∷ bs) ≡ first s (b ∷ bs) ∷ pieces s (after s (b ∷ bs))
pieces_cut s b [] = pieces_by (eqb b s) s b [] refl
pieces_cut s b (c ∷ cs) = pieces_by (eqb b s) s b (c ∷ cs) (ap (onto b) (pieces_cut s c cs))

after_by : (t : Bool) (s : ℕ) (bs : List ℕ) → length (after s bs) ≤ length bs → length (cond t bs (after s bs)) ≤ length bs
after_by true s bs le = omega arith
after_by false s bs le = le

after_short : (s : ℕ) (bs : List ℕ) → length (after s bs) ≤ length bs
after_short s [] = omega arith
after_short s (b ∷ bs) = omega (arith, after_by (eqb b s) s bs (after_short s bs))

-- what follows the first piece has the other pieces, and is shorter
pub cut_goes_on : (s : ℕ) (bs p q : List ℕ) → Some (p, q) ≡ cut s bs → (pieces s bs ≡ p ∷ pieces s q) × (length q < length bs)
cut_goes_on s [] p q e = cc
cut_goes_on s (b ∷ bs) p q e =
    let same : ◌≡◌ {A = List ℕ × List ℕ} (p, q) (first s (b ∷ bs), after s (b ∷ bs)) = cc in
    let back = ap (λ x. x.1) same in
    (pieces_cut s b bs ∙ (λ i. (sym same i).0 ∷ pieces s (sym same i).1), rw back (omega (arith, after_by (eqb b s) s bs (after_short s bs))))

pub one_piece : (s : ℕ) (bs : List ℕ) → 0 < length bs → Clear s bs (length bs) → pieces s bs ≡ bs ∷ []
one_piece s bs some clear = (cut_goes_on s bs bs [] (cut_all s bs some clear)).0
