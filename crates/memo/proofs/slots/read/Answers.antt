use Rattle.std.proofs.Common.{◌≡◌, ℕ, ◌+◌, ◌*◌, ◌<◌, get_or, ◌∙◌, rules}
use Rattle.std.proofs.lemmas.List.{places}
use Rattle.memo.proofs.Packing.{unpacked_same}
use Rattle.memo.proofs.slots.read.Goals as goal

pub returns : goal.returns
returns c =
    let ws = c.args.words.now in
    let b = 8 * c.args.s in
    let slot = c.in_ok-first_chunk.field-0.now in
    let same : (j : ℕ) → j < 8 → get_or slot j 0 ≡ get_or ws (b + j) 0 = λ j h. search (rules, c.in_ok-first_chunk.ensures.cases.same, places) in
    c.decode.ensures ∙ unpacked_same (λ j. get_or slot j 0) (λ j. get_or ws (b + j) 0) same
