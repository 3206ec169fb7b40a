use Rattle.engine.proofs.Resuming.{call_gives}
use Rattle.reading.specs.Reads.{store}
use Rattle.engine.proofs.resume.Handover.after_call.Goals as goal

pub returns-clause-resumed : goal.returns-clause-resumed
returns-clause-resumed g c =
    let T = store (g.M.Memory.table c.args.memory.now) c.args.fresh.now in
    rw c.deeper.ensures (λ G h by sane w e. call_gives sane T w e (rw c.into.ensures at (c.keep_row.ensures.stores G by)))
