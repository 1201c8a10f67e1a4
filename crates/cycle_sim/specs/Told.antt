-- What a fault of a simulator tells.
use Rattle.agm_net.specs.Plain.{PlainNet}
use Rattle.agm_net.specs.Loop.{IsLoop}
use Rattle.cycle_sim.specs.declared.faults.SimFault.{SimFault}
use Rattle.cycle_sim.specs.declared.faults.SimFault.TheVariants.{Loop, Memory}

-- a fault that names wires names a loop of the net
abbrev pub TellsLoop : PlainNet → SimFault → Type 0
TellsLoop net (Loop wires) = IsLoop net wires
TellsLoop net Memory = Unit {0}
