use Rattle.std.proofs.Common.{◌≡◌, ℕ, ◌%◌, false, eqb, get_or, Some, sym, refl, ap, ◌∙◌, rules}
use Rattle.memo.specs.Layout.{lower, row_in}
use Rattle.memo.proofs.Packing.{unpacked_none, unpacked_some, row_of}
use Rattle.memo.proofs.slots.decode.Goals as goal

pub returns-then-kind-eq-NONE : goal.returns-then-kind-eq-NONE
returns-then-kind-eq-NONE c = sym (unpacked_none (λ j. get_or c.args.slot j 0) (cc))

pub returns : goal.returns
returns c =
    let w : ℕ → ℕ = λ j. get_or c.args.slot j 0 in
    let some : eqb (lower (w 0)) 0 ≡ false = search rules in
    ap Some (
    row_of (row_in w) _ _ _ _ _ _ _ _ _ _ _
    (ap (λ (k : ℕ). eqb k 2) c.low-kind.ensures)
    (ap (λ (k : ℕ). k % 256) c.high.ensures)
    c.low.ensures
    (ap (λ (k : ℕ). eqb k 1) c.high-2.ensures)
    c.high-3.ensures
    refl
    c.low-2.ensures
    (ap (λ (k : ℕ). k % 256) c.low-3.ensures)
    c.high-4.ensures
    c.wide.ensures
    refl
    ) ∙ sym (unpacked_some w some)
