use Rattle.text.proofs.Moves.{spliced}
use Rattle.text.proofs.splice.splice.Goals as goal

pub returns : goal.returns
returns g c =
    let moves = c.move_tail.ensures in
    let copies = c.copy_from_slice.ensures.after in
    rw (moves, copies) (spliced c.args.places.now c.args.n c.args.p c.args.k c.args.items.now c.requires.used c.requires.range c.requires.room)
