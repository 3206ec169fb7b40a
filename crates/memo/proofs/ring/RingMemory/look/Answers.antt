use Rattle.memo.proofs.Turned.{found_bounds}
use Rattle.memo.proofs.ring.RingMemory.look.Goals as goal

pub returns-clause-within : goal.returns-clause-within
returns-clause-within c = found_bounds c.args.self.now.entries.items c.args.self.now.lawful
