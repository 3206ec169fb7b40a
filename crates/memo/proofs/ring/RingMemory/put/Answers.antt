use Rattle.std.proofs.Common.{refl}
use Rattle.memo.proofs.Turned.{ring_puts}
use Rattle.memo.proofs.ring.RingMemory.put.Goals as goal

pub invariant_of-self : goal.invariant_of-self
invariant_of-self c =
    let s = c.args.self.now in
    let done = ring_puts s.entries.items c.enter.new.entries.items c.args.at.rule c.args.at.place c.args.at.mode c.args.row
    c.if-at-lt-RULES.true c.if-at-lt-PLACES.true s.lawful c.enter.ensures.entered in
    record { few = c.enter.ensures.few; lawful = done.lawful }

pub returns-then-at-lt-PLACES : goal.returns-then-at-lt-PLACES
returns-then-at-lt-PLACES c =
    let s = c.args.self.now in
    let done = ring_puts s.entries.items c.enter.new.entries.items c.args.at.rule c.args.at.place c.args.at.mode c.args.row
    c.if-at-lt-RULES.true c.if-at-lt-PLACES.true s.lawful c.enter.ensures.entered in
    record { puts = done.puts; places = refl; rules = refl; order = done.order; keeps = done.keeps s.few }
