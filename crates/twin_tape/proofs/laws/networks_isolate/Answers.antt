use Rattle.twin_tape.proofs.Secure.{network_isolates}
use Rattle.twin_tape.proofs.laws.networks_isolate.Goals as goal

pub returns : goal.returns
returns c = network_isolates
