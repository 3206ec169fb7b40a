-- The smallest grammar is accepted.
use Rattle.std.proofs.Common.{◌≡◌, ℕ, zero, suc, ◌<◌, List, [], ◌∷◌, sym, refl, ◌∙◌, subst, arith}
use Rattle.std.proofs.lemmas.Bool.{both_ways}
use Rattle.grammar.specs.declared.expr.Mode.{Mode}
use Rattle.grammar.specs.declared.expr.Expr.{Expr}
use Rattle.grammar.specs.declared.expr.Expr.TheVariants.{Empty, Repetition}
use Rattle.grammar.specs.Words.{Peg, meaning}
use Rattle.grammar.specs.Form.{Leads, by_empty}
use Rattle.grammar.specs.Questions.{Never, Misformed, Misnamed, Hollow, Unending, Accepted}
use Rattle.grammar.specs.Marks.{Mask}

abbrev row : List ℕ
row = 0x80040100 ∷ 0x90000000 ∷ 0 ∷ []

formed : Never (Misformed row)
formed zero h = both_ways _ h.1 refl
formed (suc zero) h = both_ways _ h.1 refl
formed (suc (suc zero)) h = both_ways _ h.1 refl
formed (suc (suc (suc n))) h = let l = h.0 in omega arith

named : Never (Misnamed row)
named zero h = both_ways _ h.1 refl
named (suc zero) h = both_ways _ h.1 refl
named (suc (suc zero)) h = both_ways _ h.1 refl
named (suc (suc (suc n))) h = let l = h.0 in omega arith

only : (e : ℕ) → e < 1 → (meaning row).expr e ≡ Empty
only zero l = refl
only (suc e) l = absurd (omega arith)

solid : Never (Hollow row)
solid w h =
    let p : Empty ≡ Repetition h.3.part = sym (only h.0 h.1) ∙ h.3.repeats in
    let z : ◌≡◌ {A = ℕ} 0 1 = cc in
    omega arith

nowhere : (g : Peg) (m : Mode) (e : ℕ) (m' : Mode) → Leads g Empty m e m' → ⊥
nowhere g m e m' d = elim d [ ]

ending : Never (Unending row)
ending w h =
    let walk = h.3.1 in
    nowhere (meaning row) (walk.mode 0) (walk.place 1) (walk.mode 1)
    (subst (λ (x : Expr). Leads (meaning row) x (walk.mode 0) (walk.place 1) (walk.mode 1)) (only (walk.place 0) (subst (λ (k : ℕ). k < 1) (sym walk.starts) h.1)) (walk.goes 0))

pub accepted : Accepted row
accepted =
    ((omega arith, omega arith), (refl, (omega arith, omega arith), ((omega arith, omega arith), omega arith, (omega arith, omega arith))), formed, named, solid, ending)

pub mask : (m : Mode) → Mask (meaning row) m 1
mask m zero l = (λ t. by_empty, λ t n. both_ways _ t refl)
mask m (suc k) l = absurd (omega arith)
