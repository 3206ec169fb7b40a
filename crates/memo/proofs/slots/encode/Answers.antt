use Rattle.std.proofs.Common.{sym, refl, ◌∙◌}
use Rattle.memo.proofs.Packing.{unpacked_none}
use Rattle.memo.proofs.slots.encode.Goals as goal

pub returns-in-None : goal.returns-in-None
returns-in-None c = unpacked_none _ refl ∙ sym c.in-None.is
