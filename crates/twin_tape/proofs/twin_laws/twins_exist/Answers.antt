use Rattle.twin_tape.proofs.WholeTwins.{exists}
use Rattle.twin_tape.proofs.twin_laws.twins_exist.Goals as goal

pub returns : goal.returns
returns c = λ net d well hpc2 label labels T probes A inside power first second random is. exists net d well hpc2 label labels T probes A inside power first second random is
