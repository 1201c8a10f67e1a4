use Rattle.twin_tape.proofs.WholeTwins.{lead_back}
use Rattle.twin_tape.proofs.twin_laws.twins_lead_back.Goals as goal

pub returns : goal.returns
returns c = λ net d well hpc2 label labels T probes A inside power first second random twin is_first agree twin_is.
    lead_back net d well hpc2 label labels T probes A inside power first second is_first agree random twin twin_is
