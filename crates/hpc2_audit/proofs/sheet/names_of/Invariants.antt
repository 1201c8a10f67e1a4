use Rattle.std.proofs.Common.{take}
use Rattle.hpc2_audit.specs.Sheet.{AreNamesOf}
use Rattle.hpc2_audit.proofs.sheet.names_of.Given as goal

abbrev pub invariant-loop-wire : goal.invariant-loop-wire
invariant-loop-wire l = AreNamesOf (take l.wire-index l.wires) l.names
