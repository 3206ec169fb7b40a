use Rattle.std.proofs.Common.{◌≡◌, ◌*◌}
use Rattle.memo.proofs.Pass.{Passed}
use Rattle.memo.proofs.whole.WholeMemoryMemory.shift.Given as goal

abbrev pub invariant-loop-t : goal.invariant-loop-t
invariant-loop-t l =
    Passed l.initial.self.words.now (2 * l.initial.self.rules) l.initial.self.places l.p l.k l.m l.t l.self.words.now
    × (l.self.places ≡ l.initial.self.places)
    × (l.self.rules ≡ l.initial.self.rules)
    × (l.self.words.ghost_name ≡ l.initial.self.words.ghost_name)
