use Rattle.std.proofs.Common.{◌∙◌, arith}
use Rattle.sitefile.proofs.Sites.{when_made, replied}
use Rattle.sitefile.proofs.reply_to.Goals as goal

pub returns : goal.returns
returns c room =
    let made = when_made 201 3 _ _ c.new-memory.result.1 c.new-memory.ensures.answers c.new-memory.ensures.hands (omega arith, omega arith, omega arith, omega arith) (omega arith) in
    replied _ c.site_grammar-grammar.ensures (c.open-state.ensures.places ∙ made.places) (c.open-state.ensures.rules ∙ made.rules) room c.open-state.ensures.empty c.open-state.ensures.run c.parse_whole.ensures.law
    c.parse_whole.ensures.replies
