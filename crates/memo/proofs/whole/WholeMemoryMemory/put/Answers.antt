use Rattle.std.proofs.Common.{ℕ, Some, subst}
use Rattle.memo.specs.Layout.{Written}
use Rattle.memo.proofs.Tabled.{puts_at}
use Rattle.memo.proofs.whole.WholeMemoryMemory.put.Goals as goal

pub returns-in-Some-clause-puts : goal.returns-in-Some-clause-puts
returns-in-Some-clause-puts c =
    let s = c.args.self.now in
    let slot = c.in-Some.ensures in
    puts_at s.words.now c.write.new.words s.places s.rules c.args.at.rule c.args.at.place c.args.at.mode c.args.row slot.0 slot.1
    (subst (λ (u : ℕ). Written s.words.now u (Some c.args.row) c.write.new.words) slot.2 c.write.ensures)
