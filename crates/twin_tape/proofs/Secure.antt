-- HPC2 networks isolate probes.
use Rattle.std.proofs.Common.{ℕ}
use Rattle.agm_net.specs.Network.{Hpc2}
use Rattle.agm_net.specs.Plain.{PlainNet}
use Rattle.agm_net.specs.WellFormed.{WellFormed}
use Rattle.twin_tape.specs.Security.{Pini}
use Rattle.twin_tape.proofs.Isolation.{isolates}
use Rattle.twin_tape.proofs.Labels.{names}
use Rattle.twin_tape.proofs.Rules.{is_network}
use Rattle.twin_tape.proofs.Sources.{ranked_by}

pub network_isolates : (net : PlainNet) (d : ℕ) → WellFormed net → Hpc2 net d → Pini net d
network_isolates net d well hpc2 = isolates net (names net d well hpc2) d (is_network net d well hpc2) (ranked_by net well hpc2.no_loop)
