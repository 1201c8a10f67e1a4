use Rattle.twin_tape.proofs.PermittedIs.{permitted_seen}
use Rattle.twin_tape.proofs.laws.permitted_isolate.Goals as goal

pub returns : goal.returns
returns c = λ net d label well hpc2 labels T probes A inside power first second is_first agree o.
    permitted_seen net d well hpc2 label labels T probes A inside power first second is_first agree o
