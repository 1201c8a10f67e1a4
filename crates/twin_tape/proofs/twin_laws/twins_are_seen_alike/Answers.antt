use Rattle.twin_tape.proofs.WholeTwins.{see_alike}
use Rattle.twin_tape.proofs.twin_laws.twins_are_seen_alike.Goals as goal

pub returns : goal.returns
returns c = λ net d well hpc2 label labels T probes A inside power first second random twin is_first agree is a twin_is.
    see_alike net d well hpc2 label labels T probes A inside power first second is_first agree random twin is a twin_is
