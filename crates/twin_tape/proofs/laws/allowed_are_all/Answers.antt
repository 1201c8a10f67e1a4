use Rattle.twin_tape.proofs.Bounded.{allowed_has}
use Rattle.twin_tape.proofs.laws.allowed_are_all.Goals as goal

pub returns : goal.returns
returns c = λ net d label labels T probes A wires listed i h. allowed_has net d label labels T probes A wires listed i h
