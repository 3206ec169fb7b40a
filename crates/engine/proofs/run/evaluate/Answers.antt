use Rattle.std.proofs.Common.{Ok, Err, sym, refl, ◌∙◌, arith}
use Rattle.std.proofs.lemmas.Result.{err_from_is_err_and}
use Rattle.grammar.specs.Words.{meaning}
use Rattle.reading.specs.Reads.{setting, store}
use Rattle.engine.proofs.Settings.{sane}
use Rattle.engine.proofs.Turns.{entered_in, entered_refused, entered_room, entered_goes, entered_less, resumed_awaiting, resumed_goes, resumed_less}
use Rattle.engine.proofs.run.evaluate.Goals as goal

pub returns-in_err-step-in-Evaluate-clause-reads : goal.returns-in_err-step-in-Evaluate-clause-reads
returns-in_err-step-in-Evaluate-clause-reads g c =
    let p = err_from_is_err_and c.from_residual.result c.from_residual.ensures.1 in
    let refused = entered_in (meaning c.args.scene.now.grammar.now.words.now) g.T.Text.fits (g.T.Text.elements c.args.scene.now.text.now) c.args.scene.now.frames g.M.Memory.keeps c.turns.invariant.places c.turns.invariant.rules (store (g.M.Memory.table c.turns.memory) c.turns.fresh) c.turns.height c.in-Evaluate.ask (Err c.in_err-step-in-Evaluate.field-0.0) (c.in_err-step-in-Evaluate.ensures c.turns.fresh) in
    rw (p.1, p.2) (entered_refused c.turns.invariant.turn c.in-Evaluate.is _ refused)

pub resume-step-requires : goal.resume-step-requires
resume-step-requires g c = record {
  setting = setting (meaning c.args.scene.now.grammar.now.words.now) g.T.Text.fits (g.T.Text.elements c.args.scene.now.text.now) c.args.scene.now.frames g.M.Memory.keeps (g.M.Memory.P c.args.memory.now) (g.M.Memory.Q c.args.memory.now);
  of = refl;
  sane = sane c.args.scene.now.grammar.now g.T.Text.fits (g.T.Text.elements c.args.scene.now.text.now) c.args.scene.now.size c.args.scene.now.frames g.M.Memory.keeps (g.M.Memory.P c.args.memory.now) (g.M.Memory.Q c.args.memory.now) c.args.scene.now.whole c.args.scene.now.small;
  small = omega arith;
  awaiting = (resumed_awaiting c.turns.invariant.turn c.in-Return.is (omega arith));
}

pub taken-requires : goal.taken-requires
taken-requires g c = entered_room c.turns.invariant.turn c.in-Evaluate.is c.in_ok-step-in-Evaluate.step (entered_in (meaning c.args.scene.now.grammar.now.words.now) g.T.Text.fits (g.T.Text.elements c.args.scene.now.text.now) c.args.scene.now.frames g.M.Memory.keeps c.turns.invariant.places c.turns.invariant.rules (store (g.M.Memory.table c.turns.memory) c.turns.fresh) c.turns.height c.in-Evaluate.ask (Ok c.in_ok-step-in-Evaluate.step) (c.in_ok-step-in-Evaluate.ensures c.turns.fresh))

pub turns-smaller-in-Evaluate : goal.turns-smaller-in-Evaluate
turns-smaller-in-Evaluate g c = entered_less c.turns.invariant.turn c.in-Evaluate.is c.in_ok-step-in-Evaluate.step (entered_in (meaning c.args.scene.now.grammar.now.words.now) g.T.Text.fits (g.T.Text.elements c.args.scene.now.text.now) c.args.scene.now.frames g.M.Memory.keeps c.turns.invariant.places c.turns.invariant.rules (store (g.M.Memory.table c.turns.memory) c.turns.fresh) c.turns.height c.in-Evaluate.ask (Ok c.in_ok-step-in-Evaluate.step) (c.in_ok-step-in-Evaluate.ensures c.turns.fresh)) c.taken.ensures.next c.taken.ensures.held

pub turns-preserved-in-Evaluate : goal.turns-preserved-in-Evaluate
turns-preserved-in-Evaluate g c = record {
  places = c.turns.invariant.places;
  rules = c.turns.invariant.rules;
  turn = entered_goes c.turns.invariant.turn c.in-Evaluate.is c.in_ok-step-in-Evaluate.step (entered_in (meaning c.args.scene.now.grammar.now.words.now) g.T.Text.fits (g.T.Text.elements c.args.scene.now.text.now) c.args.scene.now.frames g.M.Memory.keeps c.turns.invariant.places c.turns.invariant.rules (store (g.M.Memory.table c.turns.memory) c.turns.fresh) c.turns.height c.in-Evaluate.ask (Ok c.in_ok-step-in-Evaluate.step) (c.in_ok-step-in-Evaluate.ensures c.turns.fresh)) c.taken.ensures.next c.taken.ensures.held;
}

pub turns-smaller : goal.turns-smaller
turns-smaller g c =
    let U = store (g.M.Memory.table c.resume-step.new.memory) c.resume-step.new.fresh in
    let w = c.resume-step.ensures.resumed (setting (meaning c.args.scene.now.grammar.now.words.now) g.T.Text.fits (g.T.Text.elements c.args.scene.now.text.now) c.args.scene.now.frames g.M.Memory.keeps (g.M.Memory.P c.args.memory.now) (g.M.Memory.Q c.args.memory.now)) refl (refl, sym c.turns.invariant.places, sym c.turns.invariant.rules) (sane c.args.scene.now.grammar.now g.T.Text.fits (g.T.Text.elements c.args.scene.now.text.now) c.args.scene.now.size c.args.scene.now.frames g.M.Memory.keeps (g.M.Memory.P c.args.memory.now) (g.M.Memory.Q c.args.memory.now) c.args.scene.now.whole c.args.scene.now.small) (resumed_awaiting c.turns.invariant.turn c.in-Return.is (omega arith)) in
    resumed_less c.turns.invariant.turn c.in-Return.is (omega arith) U c.resume-step.result w c.taken-in-Return.ensures.next c.taken-in-Return.ensures.held

pub turns-preserved : goal.turns-preserved
turns-preserved g c =
    let U = store (g.M.Memory.table c.resume-step.new.memory) c.resume-step.new.fresh in
    let w = c.resume-step.ensures.resumed (setting (meaning c.args.scene.now.grammar.now.words.now) g.T.Text.fits (g.T.Text.elements c.args.scene.now.text.now) c.args.scene.now.frames g.M.Memory.keeps (g.M.Memory.P c.args.memory.now) (g.M.Memory.Q c.args.memory.now)) refl (refl, sym c.turns.invariant.places, sym c.turns.invariant.rules) (sane c.args.scene.now.grammar.now g.T.Text.fits (g.T.Text.elements c.args.scene.now.text.now) c.args.scene.now.size c.args.scene.now.frames g.M.Memory.keeps (g.M.Memory.P c.args.memory.now) (g.M.Memory.Q c.args.memory.now) c.args.scene.now.whole c.args.scene.now.small) (resumed_awaiting c.turns.invariant.turn c.in-Return.is (omega arith)) in
    record {
      places = c.resume-step.ensures.places ∙ c.turns.invariant.places;
      rules = c.resume-step.ensures.rules ∙ c.turns.invariant.rules;
      turn = resumed_goes c.turns.invariant.turn c.in-Return.is (omega arith) U c.resume-step.result w c.taken-in-Return.ensures.next c.taken-in-Return.ensures.held;
    }
