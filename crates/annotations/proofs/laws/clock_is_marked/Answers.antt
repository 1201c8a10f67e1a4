use Rattle.annotations.proofs.ClockMark.{marked_iff}
use Rattle.annotations.proofs.laws.clock_is_marked.Goals as goal

pub returns : goal.returns
returns c = λ top net bound none k p at. marked_iff top net bound none k p at
