use Rattle.std.proofs.Common.{◌≡◌, map, take}
use Rattle.agm_net.specs.Plain.{stored_of}
use Rattle.hpc2_audit.proofs.sheet.register_wires.Given as goal

abbrev pub invariant-loop-register : goal.invariant-loop-register
invariant-loop-register l = l.wires ≡ map (λ r. r.q) (map stored_of (take l.register-index l.registers))
