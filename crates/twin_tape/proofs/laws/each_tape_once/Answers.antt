use Rattle.twin_tape.proofs.Once.{tapes_once}
use Rattle.twin_tape.proofs.laws.each_tape_once.Goals as goal

pub returns : goal.returns
returns c = tapes_once
