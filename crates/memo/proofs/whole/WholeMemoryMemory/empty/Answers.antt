use Rattle.std.proofs.Common.{◌≡◌, ℕ, ◌*◌, ◌<◌, length, take, replicate, List, get_or, ap, ◌∙◌, arith, length-take}
use Rattle.std.proofs.lemmas.List.{get_or_append_left, get_or-replicate}
use Rattle.memo.proofs.Tabled.{empty_at}
use Rattle.memo.proofs.whole.WholeMemoryMemory.empty.Goals as goal

pub returns-clause-empty : goal.returns-clause-empty
returns-clause-empty c =
    let s = c.args.self.now in
    let front = take (16 * (s.places * s.rules)) s.words.now in
    let zeros : c.fill.new.self ≡ replicate (length front) 0 = c.fill.ensures.after (λ y e. e) in
    empty_at _ s.places s.rules (λ u h.
    let low : u < length front = simp length-take (omega (arith, s.room)) in
    get_or_append_left c.fill.new.self _ 0 u (omega (arith, c.fill.ensures.len)) ∙ ap (λ (xs : List ℕ). get_or xs u 0) zeros ∙ get_or-replicate (length front) u 0 0 low)
