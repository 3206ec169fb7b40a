-- Marks that grow: one by one, in a pass, and over passes.
use Rattle.std.proofs.Common.{◌≡◌, ℕ, ◌+◌, ◌<◌, Bool, true, false, ◌||◌, List, sym, refl, ◌∙◌, subst, inl, inr, arith}
use Rattle.std.proofs.lemmas.Bool.{both_ways, cases_eq, or_parts}
use Rattle.grammar.specs.declared.expr.Mode.{Mode}
use Rattle.grammar.specs.declared.marks.Fact.{Fact}
use Rattle.grammar.specs.declared.marks.Fact.TheVariants.{MayMatchNothing, WalksEnd}
use Rattle.grammar.specs.Words.{Peg}
use Rattle.grammar.specs.Form.{Whole}
use Rattle.grammar.specs.Marks.{mark, Marked, due, Backed, Ready, other, missing, Grew, Tried, Holds}
use Rattle.grammar.proofs.Settling.{due_holds, missing_lt}

not_other : (f : Fact) → other f ≡ f → ⊥
not_other MayMatchNothing p = cc
not_other WalksEnd p = cc

-- one mark more
pub grew_one : (g : Peg) (ws xs : List ℕ) (f : Fact) (e : ℕ) (m : Mode) → Whole g → e < g.N → Ready g (mark ws) f → Backed g (mark ws) f
    → mark ws f e m ≡ false → due g (mark ws) f (g.expr e) m ≡ true → Marked ws xs f e m → Grew g ws xs f true
grew_one g ws xs f e m whole low ready backed unset d one = record {
  backed = λ e' m' l t. elim (one.others f e' m') [
    | inl p ↦ subst (λ (k : ℕ). Holds g f k m') (sym p.1) (subst (λ (k : Mode). Holds g f e k) (sym p.2) (due_holds g whole (mark ws) f ready backed e m low d))
    | inr q ↦ backed e' m' l (sym q ∙ t)
  ];
  same = λ e' m'. elim (one.others (other f) e' m') [ inl p ↦ absurd (not_other f p.0) | inr q ↦ q ];
  fewer = λ p. missing_lt (mark ws) (mark xs) f
      (λ e' m' t. elim (one.others f e' m') [
        | inl p ↦ subst (λ (k : ℕ). mark xs f k m' ≡ true) (sym p.1) (subst (λ (k : Mode). mark xs f e k ≡ true) (sym p.2) one.here)
        | inr q ↦ q ∙ t
      ]) g.N e m low unset one.here;
  rest = λ p. absurd (both_ways true p refl);
}

-- growth after growth
pub grew_then : (g : Peg) (ws xs ys : List ℕ) (f : Fact) (a b : Bool) → Grew g ws xs f a → Grew g xs ys f b → Grew g ws ys f (a || b)
grew_then g ws xs ys f a b one two = record {
  backed = two.backed;
  same = λ e m. two.same e m ∙ one.same e m;
  fewer = fewer a b one.fewer two.fewer one.rest two.rest;
  rest = λ p. two.rest (or_parts a b p).1 ∙ one.rest (or_parts a b p).0;
}
  where
    fewer : (a b : Bool) → (a ≡ true → missing (mark xs) f g.N < missing (mark ws) f g.N) → (b ≡ true → missing (mark ys) f g.N < missing (mark xs) f g.N)
        → (a ≡ false → xs ≡ ws) → (b ≡ false → ys ≡ xs) → (a || b) ≡ true → missing (mark ys) f g.N < missing (mark ws) f g.N
    fewer true true h k r q p = let x = h refl in let y = k refl in omega arith
    fewer true false h k r q p = rw (q refl) (h refl)
    fewer false b h k r q p = rw (sym (r refl)) (k p)

-- one expression more in a pass
pub pass_more : (g : Peg) (ws xs ys : List ℕ) (f : Fact) (a b : Bool) (n : ℕ)
    → Grew g ws xs f a × (a ≡ false → (e : ℕ) (m : Mode) → e < n → Tried g (mark xs) f e m)
    → Grew g xs ys f b → (b ≡ false → (m : Mode) → Tried g (mark xs) f n m)
    → Grew g ws ys f (a || b) × ((a || b) ≡ false → (e : ℕ) (m : Mode) → e < n + 1 → Tried g (mark ys) f e m)
pass_more g ws xs ys f a b n before two here = (
  grew_then g ws xs ys f a b before.0 two,
  λ q. let parts = or_parts a b q in
      subst (λ (zs : List ℕ). (e : ℕ) (m : Mode) → e < n + 1 → Tried g (mark zs) f e m) (sym (two.rest parts.1))
      (λ e m l. elim (cases_eq e n) [
        | inl eq ↦ subst (λ (k : ℕ). Tried g (mark xs) f k m) (sym eq) (here parts.1 m)
        | inr ne ↦ before.1 parts.0 e m (omega arith)
      ]),
)
