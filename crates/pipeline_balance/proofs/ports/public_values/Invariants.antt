use Rattle.std.proofs.Common.{◌≡◌, map, take}
use Rattle.pipeline_balance.specs.Ports.{public_value}
use Rattle.pipeline_balance.proofs.ports.public_values.Given as goal

abbrev pub invariant-loop-j : goal.invariant-loop-j
invariant-loop-j g l = l.values ≡ map public_value (take l.j l.wires)
