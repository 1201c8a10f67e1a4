use Rattle.std.proofs.Common.{◌≡◌, map, drop}
use Rattle.agm_net.specs.Plain.{line_of}
use Rattle.hpc2_audit.specs.Readers.{noted_lines}
use Rattle.hpc2_audit.proofs.readers.note_equations.Given as goal

abbrev pub invariant-loop-equation : goal.invariant-loop-equation
invariant-loop-equation l = noted_lines (map line_of (drop l.equation-index l.equations)) l.readers ≡ noted_lines (map line_of l.equations) l.fn.readers
