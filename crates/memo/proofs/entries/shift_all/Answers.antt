use Rattle.std.proofs.Common.{rules}
use Rattle.memo.proofs.Ordered.{shifted_retained}
use Rattle.memo.proofs.entries.shift_all.Goals as goal

pub returns-clause-shifted : goal.returns-clause-shifted
returns-clause-shifted c =
    let a = c.args.change in
    shifted_retained _ _ a.p a.k a.m (λ x b f' y h. search rules) c.args.entries.now.items c.retain.new.self.items c.retain.ensures.filtered
