use Rattle.peg.proofs.frames_or_halt.Goals as goal
use Rattle.peg.proofs.Halting.{frames}

pub returns : goal.returns
returns c = frames
