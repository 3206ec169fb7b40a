use Rattle.std.proofs.Common.{arith}
use Rattle.text.proofs.Changes.{unused}
use Rattle.text.proofs.buffer.BufferEditableText.replace.Goals as goal

pub returns-clause-unused : goal.returns-clause-unused
returns-clause-unused g c =
    let s = c.args.self.now in
    unused s.places.now c.splice.new.places s.size c.args.p c.args.k c.args.items.now (omega arith) (omega arith) (omega arith) c.splice.ensures
