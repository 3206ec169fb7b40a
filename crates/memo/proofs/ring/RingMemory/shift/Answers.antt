use Rattle.std.proofs.Common.{refl, arith}
use Rattle.memo.proofs.Turned.{ring_shifts}
use Rattle.memo.proofs.ring.RingMemory.shift.Goals as goal

pub invariant_of-self : goal.invariant_of-self
invariant_of-self c =
    let s = c.args.self.now in
    let done = ring_shifts c.args.p c.args.k c.args.m s.entries.items c.shift_all.new.entries.items s.lawful c.shift_all.ensures.shifted in
    record { few = omega (arith, c.shift_all.ensures.few, s.few); lawful = done.lawful }

pub returns : goal.returns
returns c =
    let s = c.args.self.now in
    let done = ring_shifts c.args.p c.args.k c.args.m s.entries.items c.shift_all.new.entries.items s.lawful c.shift_all.ensures.shifted in
    record { shifts = done.shifts; places = refl; rules = refl; order = done.order; keeps = done.keeps }
