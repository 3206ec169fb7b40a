use Rattle.std.proofs.Common.{sym, arith}
use Rattle.reading.specs.Reads.{store, Reads}
use Rattle.engine.proofs.Settings.{accepted_label, begins}
use Rattle.engine.proofs.Entering.{open_sequence, open_choice, open_repetition, open_predicate, open_throw, give_empty, give_terminal, give_throw}
use Rattle.engine.proofs.scene.Scene.enter.Goals as goal

pub returns-then-height-self : goal.returns-then-height-self
returns-then-height-self g c = λ n. Reads.too_deep c.if-height-self.true

pub overflow_cast-label : goal.overflow_cast-label
overflow_cast-label g c =
    let l = accepted_label c.args.self.now.grammar.now c.requires.known (sym c.in-Throw.ensures) in
    omega arith

pub returns-in-Empty : goal.returns-in-Empty
returns-in-Empty g c =
    let here = begins c.args.self.now.grammar.now g.T.Text.fits (g.T.Text.elements c.args.self.now.text.now) c.args.self.now.size c.args.self.now.frames g.M.Memory.keeps (g.M.Memory.P c.args.memory.now) (g.M.Memory.Q c.args.memory.now) c.args.self.now.whole c.args.self.now.small c.if-height-self.false c.requires.known c.requires.within in
    rw c.alone.ensures (λ n. give_empty here (store (g.M.Memory.table c.args.memory.now) n) (sym c.in-Empty.ensures))

pub returns-in-Terminal : goal.returns-in-Terminal
returns-in-Terminal g c =
    let here = begins c.args.self.now.grammar.now g.T.Text.fits (g.T.Text.elements c.args.self.now.text.now) c.args.self.now.size c.args.self.now.frames g.M.Memory.keeps (g.M.Memory.P c.args.memory.now) (g.M.Memory.Q c.args.memory.now) c.args.self.now.whole c.args.self.now.small c.if-height-self.false c.requires.known c.requires.within in
    rw c.terminal.ensures (λ n. give_terminal here (store (g.M.Memory.table c.args.memory.now) n) (sym c.in-Terminal.ensures))

pub returns-in-Sequence : goal.returns-in-Sequence
returns-in-Sequence g c =
    let here = begins c.args.self.now.grammar.now g.T.Text.fits (g.T.Text.elements c.args.self.now.text.now) c.args.self.now.size c.args.self.now.frames g.M.Memory.keeps (g.M.Memory.P c.args.memory.now) (g.M.Memory.Q c.args.memory.now) c.args.self.now.whole c.args.self.now.small c.if-height-self.false c.requires.known c.requires.within in
    rw c.opened.ensures (λ n. open_sequence here (store (g.M.Memory.table c.args.memory.now) n) (sym c.in-Sequence.ensures))

pub returns-in-Choice : goal.returns-in-Choice
returns-in-Choice g c =
    let here = begins c.args.self.now.grammar.now g.T.Text.fits (g.T.Text.elements c.args.self.now.text.now) c.args.self.now.size c.args.self.now.frames g.M.Memory.keeps (g.M.Memory.P c.args.memory.now) (g.M.Memory.Q c.args.memory.now) c.args.self.now.whole c.args.self.now.small c.if-height-self.false c.requires.known c.requires.within in
    rw c.opened-in-Choice.ensures (λ n. open_choice here (store (g.M.Memory.table c.args.memory.now) n) (sym c.in-Choice.ensures))

pub returns-in-Repetition : goal.returns-in-Repetition
returns-in-Repetition g c =
    let here = begins c.args.self.now.grammar.now g.T.Text.fits (g.T.Text.elements c.args.self.now.text.now) c.args.self.now.size c.args.self.now.frames g.M.Memory.keeps (g.M.Memory.P c.args.memory.now) (g.M.Memory.Q c.args.memory.now) c.args.self.now.whole c.args.self.now.small c.if-height-self.false c.requires.known c.requires.within in
    rw c.opened-in-Repetition.ensures (λ n. open_repetition here (store (g.M.Memory.table c.args.memory.now) n) (sym c.in-Repetition.ensures))

pub returns-in-Predicate : goal.returns-in-Predicate
returns-in-Predicate g c =
    let here = begins c.args.self.now.grammar.now g.T.Text.fits (g.T.Text.elements c.args.self.now.text.now) c.args.self.now.size c.args.self.now.frames g.M.Memory.keeps (g.M.Memory.P c.args.memory.now) (g.M.Memory.Q c.args.memory.now) c.args.self.now.whole c.args.self.now.small c.if-height-self.false c.requires.known c.requires.within in
    rw c.opened-in-Predicate.ensures (λ n. open_predicate here (store (g.M.Memory.table c.args.memory.now) n) (sym c.in-Predicate.ensures))

pub returns-in-Some : goal.returns-in-Some
returns-in-Some g c =
    let here = begins c.args.self.now.grammar.now g.T.Text.fits (g.T.Text.elements c.args.self.now.text.now) c.args.self.now.size c.args.self.now.frames g.M.Memory.keeps (g.M.Memory.P c.args.memory.now) (g.M.Memory.Q c.args.memory.now) c.args.self.now.whole c.args.self.now.small c.if-height-self.false c.requires.known c.requires.within in
    rw c.opened-in-Some.ensures (λ n. open_throw here (store (g.M.Memory.table c.args.memory.now) n) (sym c.in-Throw.ensures) (sym c.in-Some.ensures))

pub returns-in-None : goal.returns-in-None
returns-in-None g c =
    let here = begins c.args.self.now.grammar.now g.T.Text.fits (g.T.Text.elements c.args.self.now.text.now) c.args.self.now.size c.args.self.now.frames g.M.Memory.keeps (g.M.Memory.P c.args.memory.now) (g.M.Memory.Q c.args.memory.now) c.args.self.now.whole c.args.self.now.small c.if-height-self.false c.requires.known c.requires.within in
    rw c.thrown.ensures (λ n. give_throw here (store (g.M.Memory.table c.args.memory.now) n) (sym c.in-Throw.ensures) (sym c.in-None.ensures))
