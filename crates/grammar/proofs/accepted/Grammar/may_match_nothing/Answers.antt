use Rattle.std.proofs.Common.{ℕ, ◌/◌, ◌^◌, ◌<◌, eqb, ap, arith}
use Rattle.std.proofs.lemmas.Nat.{and_mask}
use Rattle.grammar.specs.Words.{meaning}
use Rattle.grammar.proofs.Finding.{mask_tells}
use Rattle.grammar.proofs.accepted.Grammar.may_match_nothing.Goals as goal

pub returns-then-rule-rules_of : goal.returns-then-rule-rules_of
returns-then-rule-rules_of c =
    let g = meaning c.args.self.now.words.now in
    let low : c.args.rule < g.R = omega (arith, c.rules_of.ensures.value) in
    mask_tells g c.args.mode c.mask.result c.args.rule _ c.mask.ensures low
    (ap (λ (x : ℕ). eqb x 1) (and_mask (c.mask.result / 2 ^ c.args.rule) 1))
