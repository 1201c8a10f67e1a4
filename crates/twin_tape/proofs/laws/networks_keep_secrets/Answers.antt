use Rattle.twin_tape.proofs.Blinding.{blind}
use Rattle.twin_tape.proofs.Secure.{network_isolates}
use Rattle.twin_tape.proofs.laws.networks_keep_secrets.Goals as goal

pub returns : goal.returns
returns c = λ net d well hpc2 whole. blind net d (network_isolates net d well hpc2) whole
