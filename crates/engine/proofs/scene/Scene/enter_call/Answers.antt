use Rattle.std.proofs.Common.{◌≡◌, ◌+◌, ◌-◌, sym, refl, arith}
use Rattle.grammar.specs.Words.{meaning}
use Rattle.reading.specs.Reads.{setting, store}
use Rattle.engine.proofs.Settings.{begins}
use Rattle.std.proofs.lemmas.Result.{err_from_is_err_and}
use Rattle.engine.proofs.Entering.{open_call, give_found, refuse_found}
use Rattle.engine.proofs.Finding.{found_gives}
use Rattle.engine.proofs.scene.Scene.enter_call.Goals as goal

pub invariant_of-part : goal.invariant_of-part
invariant_of-part g c =
    let room : c.args.height + 1 + (c.args.self.now.frames - c.args.height - 1) ≡ c.args.self.now.frames = omega arith in
    let found = c.in_ok-reading-in-Some.ensures (setting (meaning c.args.self.now.grammar.now.words.now) g.T.Text.fits (g.T.Text.elements c.args.self.now.text.now) c.args.self.now.frames g.M.Memory.keeps (g.M.Memory.P c.args.memory.now) (g.M.Memory.Q c.args.memory.now)) (c.args.height + 1) refl (sym c.args.self.now.whole) room in
    let f = found_gives _ _ _ _ _ _ _ found in
    record { shallow = omega (arith, f.2) }

pub returns-in-None : goal.returns-in-None
returns-in-None g c =
    let here = begins c.args.self.now.grammar.now g.T.Text.fits (g.T.Text.elements c.args.self.now.text.now) c.args.self.now.size c.args.self.now.frames g.M.Memory.keeps (g.M.Memory.P c.args.memory.now) (g.M.Memory.Q c.args.memory.now) c.args.self.now.whole c.args.self.now.small c.requires.level c.requires.known c.requires.within in
    rw (c.opened.ensures, c.body.ensures) (λ n. open_call here (store (g.M.Memory.table c.args.memory.now) n) c.requires.call (sym c.in-None.ensures.row))

pub returns-in_ok-reading-in-Some : goal.returns-in_ok-reading-in-Some
returns-in_ok-reading-in-Some g c =
    let room : c.args.height + 1 + (c.args.self.now.frames - c.args.height - 1) ≡ c.args.self.now.frames = omega arith in
    let here = begins c.args.self.now.grammar.now g.T.Text.fits (g.T.Text.elements c.args.self.now.text.now) c.args.self.now.size c.args.self.now.frames g.M.Memory.keeps (g.M.Memory.P c.args.memory.now) (g.M.Memory.Q c.args.memory.now) c.args.self.now.whole c.args.self.now.small c.requires.level c.requires.known c.requires.within in
    let found = c.in_ok-reading-in-Some.ensures (setting (meaning c.args.self.now.grammar.now.words.now) g.T.Text.fits (g.T.Text.elements c.args.self.now.text.now) c.args.self.now.frames g.M.Memory.keeps (g.M.Memory.P c.args.memory.now) (g.M.Memory.Q c.args.memory.now)) (c.args.height + 1) refl (sym c.args.self.now.whole) room in
    rw c.deeper.ensures (λ n. give_found here (store (g.M.Memory.table c.args.memory.now) n) c.requires.call (sym c.in-Some.ensures.row) found)

pub returns-in_err-reading-in-Some : goal.returns-in_err-reading-in-Some
returns-in_err-reading-in-Some g c =
    let room : c.args.height + 1 + (c.args.self.now.frames - c.args.height - 1) ≡ c.args.self.now.frames = omega arith in
    let here = begins c.args.self.now.grammar.now g.T.Text.fits (g.T.Text.elements c.args.self.now.text.now) c.args.self.now.size c.args.self.now.frames g.M.Memory.keeps (g.M.Memory.P c.args.memory.now) (g.M.Memory.Q c.args.memory.now) c.args.self.now.whole c.args.self.now.small c.requires.level c.requires.known c.requires.within in
    let found = c.in_err-reading-in-Some.ensures (setting (meaning c.args.self.now.grammar.now.words.now) g.T.Text.fits (g.T.Text.elements c.args.self.now.text.now) c.args.self.now.frames g.M.Memory.keeps (g.M.Memory.P c.args.memory.now) (g.M.Memory.Q c.args.memory.now)) (c.args.height + 1) refl (sym c.args.self.now.whole) room in
    let p = err_from_is_err_and c.from_residual.result c.from_residual.ensures.1 in
    rw (p.1, p.2) (λ n. refuse_found here (store (g.M.Memory.table c.args.memory.now) n) c.requires.call (sym c.in-Some.ensures.row) found)
