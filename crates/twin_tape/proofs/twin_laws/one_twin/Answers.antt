use Rattle.twin_tape.proofs.WholeTwins.{only_one}
use Rattle.twin_tape.proofs.twin_laws.one_twin.Goals as goal

pub returns : goal.returns
returns c = λ net d well hpc2 label labels T probes A inside power first second random twin other is a b one two.
    only_one net d well hpc2 label labels T probes A inside power first second random twin other is a b one two
