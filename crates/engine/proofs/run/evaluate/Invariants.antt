use Rattle.std.proofs.Common.{◌≡◌}
use Rattle.grammar.specs.Words.{meaning}
use Rattle.engine.specs.Frames.{stack}
use Rattle.reading.specs.Reads.{setting, store}
use Rattle.engine.specs.Machine.{left}
use Rattle.engine.proofs.Turns.{Goal, Turn}
use Rattle.engine.proofs.run.evaluate.Given as goal

abbrev pub invariant-turns : goal.invariant-turns
invariant-turns g l =
    let G = setting (meaning l.scene.grammar.now.words.now) g.T.Text.fits (g.T.Text.elements l.scene.text.now) l.scene.frames g.M.Memory.keeps (g.M.Memory.P l.initial.memory) (g.M.Memory.Q l.initial.memory) in
    record {
      places : g.M.Memory.P l.memory ≡ g.M.Memory.P l.initial.memory;
      rules : g.M.Memory.Q l.memory ≡ g.M.Memory.Q l.initial.memory;
      turn : Turn G (Goal G (store (g.M.Memory.table l.initial.memory) l.initial.fresh) l.root) (store (g.M.Memory.table l.memory) l.fresh) l.frames l.height l.control;
    }

abbrev pub decreases-turns : goal.decreases-turns
decreases-turns g l =
    let G = setting (meaning l.scene.grammar.now.words.now) g.T.Text.fits (g.T.Text.elements l.scene.text.now) l.scene.frames g.M.Memory.keeps (g.M.Memory.P l.initial.memory) (g.M.Memory.Q l.initial.memory) in
    left G (stack l.frames l.height) l.control
