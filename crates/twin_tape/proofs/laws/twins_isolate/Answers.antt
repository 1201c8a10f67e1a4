use Rattle.twin_tape.proofs.Twins.{pini_from_twins}
use Rattle.twin_tape.proofs.laws.twins_isolate.Goals as goal

pub returns : goal.returns
returns c = pini_from_twins
