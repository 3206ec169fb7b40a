use Rattle.std.proofs.Common.{◌≡◌, ℕ, ◌+◌, ◌-◌, ◌*◌, ◌<◌, ◌≤◌, ◌⊎◌, get_or, ◌∙◌, inl, inr, arith, rules}
use borrow.Rule.Slice.PartMut.{put_mid}
use Rattle.std.proofs.lemmas.List.{places}
use Rattle.memo.proofs.Packing.{unpacked_same}
use Rattle.memo.proofs.slots.write.Goals as goal

pub returns : goal.returns
returns c =
    let ws = c.args.words.now in
    let b = 8 * c.args.s in
    let slot = c.encode.result in
    let vs = put_mid b (b + 8 - b) ws c.copy_from_slice.new.self in
    let here : (j : ℕ) → j < 8 → get_or vs (b + j) 0 ≡ get_or slot j 0 = λ j h. search (rules, places) in
    let rest : (u : ℕ) → (u < b) ⊎ (b + 8 ≤ u) → get_or vs u 0 ≡ get_or ws u 0 = λ u h. elim h [ inl a ↦ search (rules, places) | inr b ↦ search (rules, places) ] in
    record {
      there = unpacked_same (λ j. get_or vs (b + j) 0) (λ j. get_or slot j 0) here ∙ c.encode.ensures;
      others = λ u h. unpacked_same (λ j. get_or vs (8 * u + j) 0) (λ j. get_or ws (8 * u + j) 0)
          (λ j l. rest (8 * u + j) (elim h [ inl a ↦ inl (omega arith) | inr b ↦ inr (omega arith) ]));
      rest = rest;
    }
