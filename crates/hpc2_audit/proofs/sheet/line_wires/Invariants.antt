use Rattle.std.proofs.Common.{◌≡◌, map, take}
use Rattle.agm_net.specs.Plain.{line_of}
use Rattle.hpc2_audit.proofs.sheet.line_wires.Given as goal

abbrev pub invariant-loop-equation : goal.invariant-loop-equation
invariant-loop-equation l = l.wires ≡ map (λ l. l.0) (map line_of (take l.equation-index l.equations))
