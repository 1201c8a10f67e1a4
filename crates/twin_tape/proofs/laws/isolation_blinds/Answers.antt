use Rattle.twin_tape.proofs.Blinding.{blind}
use Rattle.twin_tape.proofs.laws.isolation_blinds.Goals as goal

pub returns : goal.returns
returns c = blind
