use Rattle.std.proofs.Common.{◌≡◌, ℕ, ◌+◌, ◌-◌, ◌^◌, ◌<◌, min, length, ap, ◌∙◌, ap₂, arith}
use Rattle.grammar.specs.Words.{bit}
use Rattle.grammar.specs.Marks.{mark, mode_bit}
use Rattle.grammar.proofs.Marking.{word_there}
use Rattle.grammar.proofs.marks.marked.Goals as goal

pub returns : goal.returns
unfolding mark
returns c =
    let short : length c.args.work.now < 2 ^ 64 = omega arith in
    let second : c.saturating_add-second.result ≡ min (c.args.number + mode_bit c.args.mode) (2 ^ 64 - 1) =
    c.saturating_add-second.ensures ∙ ap (λ (b : ℕ). min (c.args.number + b) (2 ^ 64 - 1)) (c.from-2.ensures ∙ c.from.ensures) in
    c.holds.ensures
    ∙ ap₂ bit (c.word_at.ensures ∙ word_there c.args.work.now c.args.number (mode_bit c.args.mode) _ short second) c.from-3.ensures
