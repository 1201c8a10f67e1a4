use Rattle.std.proofs.Common.{◌≡◌, map, drop}
use Rattle.agm_net.specs.Plain.{stored_of}
use Rattle.hpc2_audit.specs.Readers.{noted_registers}
use Rattle.hpc2_audit.proofs.readers.note_registers.Given as goal

abbrev pub invariant-loop-register : goal.invariant-loop-register
invariant-loop-register l = noted_registers (map stored_of (drop l.register-index l.registers)) l.readers ≡ noted_registers (map stored_of l.registers) l.fn.readers
