use Rattle.std.proofs.Common.{◌≡◌, ℕ, ◌/◌, ◌%◌, false, cond, eqb, [], ◌∷◌, get_or, Some, refl, ap, ◌∙◌, arith}
use Rattle.memo.specs.Layout.{lower, upper}
use Rattle.memo.proofs.Packing.{unpacked_some, row_of, two_or_one, one_or_none}
use Rattle.memo.proofs.slots.packed.Goals as goal
use Rattle.memo.proofs.slots.packed.Goals.{then-row, else-row}

pub returns : goal.returns
returns c =
    let x = c.args.row in
    let w : ℕ → ℕ = λ j. get_or (c.joined.result ∷ c.joined-2.result ∷ x.marks ∷ c.joined-3.result ∷ c.joined-4.result ∷ x.depth % 4294967296 ∷ x.depth / 4294967296 ∷ x.reach ∷ []) j 0 in
    let kind : c.if-row.kind ≡ cond x.matched 2 1 = elim c.if-row.branch [ then-row w ↦ (cc (w.kind-is, w.if-row.true)) | else-row w ↦ (cc (w.kind-is, w.if-row.false)) ] in
    let tag : lower c.joined.result ≡ c.if-row.kind = omega arith in
    let flag : upper c.joined-4.result ≡ c.from-2.result = omega arith in
    let label : upper c.joined.result ≡ x.label = omega arith in
    let is : (eqb (lower (w 0)) 2 ≡ x.matched) × (eqb (lower (w 0)) 0 ≡ false) = two_or_one x.matched (lower (w 0)) (tag ∙ kind) in
    unpacked_some w is.1 ∙ ap Some (
    row_of x _ _ _ _ _ _ _ _ _ _ _
    is.0
    (ap (λ (n : ℕ). n % 256) label ∙ omega arith)
    (omega arith)
    (one_or_none x.noted (upper (w 4)) (flag ∙ c.from-2.ensures))
    (omega arith)
    refl
    (omega arith)
    (omega arith)
    (omega arith)
    (omega arith)
    refl
    )
