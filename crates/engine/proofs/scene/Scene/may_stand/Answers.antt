use Rattle.std.proofs.Common.{ℕ, ap, ◌∙◌}
use Rattle.grammar.specs.Words.{meaning}
use Rattle.engine.specs.Finding.{places_fit_lem}
use Rattle.engine.proofs.Finding.{stand_tells}
use Rattle.engine.proofs.scene.Scene.may_stand.Goals as goal

pub returns : goal.returns
returns g c = λ G p q.
    stand_tells G (meaning c.args.self.now.grammar.now.words.now) c.args.self.now.size c.args.at.rule c.args.at.place c.args.at.mode c.args.v c.places_fit-fits.result c.may_match_nothing-may.result c.is_nothing-nothing.result _ p q
    (c.places_fit-fits.ensures ∙ ap (λ (l : ℕ). places_fit_lem c.args.self.now.size l c.args.v) c.labels.ensures) c.is_nothing-nothing.ensures c.may_match_nothing-may.ensures c.all_fits.ensures
