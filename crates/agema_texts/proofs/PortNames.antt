-- The names of shared ports can be written where those of all ports can.
use Rattle.std.proofs.Common.{ℕ, List, [], ◌∷◌, map}
use Rattle.std.specs.List.{AllByRecursion}
use Rattle.agm_net.specs.Plain.{PlainNet}
use Rattle.agm_net.specs.Writable.{IsWritable}
use Rattle.agm_net.specs.declared.mark.Mark.{Mark}
use Rattle.agm_net.specs.declared.port.Port.{Port}
use Rattle.share_wiring.specs.ReportOf.{SharedNames, none, shared, public}

pub shared_names : {net : PlainNet} {marks : List Mark} {ps : List Port} {ms : List Mark} {names : List (List ℕ)} → SharedNames net marks ps ms names → AllByRecursion (λ p. IsWritable p.name) ps → AllByRecursion IsWritable names
shared_names none h = tt
shared_names (shared is rest) h = (h.0, shared_names rest h.1)
shared_names (public not rest) h = shared_names rest h.1
