use Rattle.std.proofs.Common.{◌≡◌, ◌+◌, ◌-◌, ◌<◌, [], length, take, drop, Some, sym, ap, ◌∙◌, add-one, arith}
use native.Mathlib.Nat.{sub-zero}
use Rattle.std.proofs.lemmas.List.{take_rest, drop_all}
use Rattle.std.proofs.lemmas.Bool.{eqb-false}
use Rattle.rowtext.specs.Pieces.{cut}
use Rattle.rowtext.proofs.Cutting.{cut_at, cut_all, cut_goes_on}
use Rattle.rowtext.proofs.pieces.next_piece.Goals as goal

pub returns-then-end-text : goal.returns-then-end-text
returns-then-end-text c =
    let s = c.args.separator in
    let bs = c.args.text.now in
    let n = c.before-end.result in
    let some : 0 < length bs = omega (arith, eqb-false (length bs) 0 (sym c.if-is_empty.ensures)) in
    let rest : take (length bs - n) (drop n bs) ≡ [] = take_rest bs n ∙ drop_all n bs (omega arith) in
    let parts : Some (bs, take (length bs - n) (drop n bs)) ≡ cut s bs =
    ap (λ q. Some (bs, q)) rest ∙ cut_all s bs some (λ k low. c.before-end.ensures.apart k (omega arith)) in
    let h = cut_goes_on s bs bs (take (length bs - n) (drop n bs)) parts in
    record { parts = parts; cuts = h.0; falls = h.1 }

pub returns : goal.returns
returns c =
    let s = c.args.separator in
    let bs = c.args.text.now in
    let n = c.before-end.result in
    let low : n < length bs = omega arith in
    let rest = take_rest bs (n + 1) in
    let parts : Some (take (n - 0) bs, take (length bs - (n + 1)) (drop (n + 1) bs)) ≡ cut s bs =
    rw (rest, add-one, sub-zero) (cut_at s bs n low c.before-end.ensures.apart (c.before-end.ensures.found low)) in
    let h = cut_goes_on s bs (take (n - 0) bs) (take (length bs - (n + 1)) (drop (n + 1) bs)) parts in
    record { parts = parts; cuts = h.0; falls = h.1 }
