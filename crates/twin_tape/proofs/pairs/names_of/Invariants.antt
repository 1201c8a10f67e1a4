use Rattle.std.proofs.Common.{◌≡◌, take}
use Rattle.twin_tape.proofs.pairs.names_of.Given as goal

abbrev pub invariant-loop-wire : goal.invariant-loop-wire
invariant-loop-wire l = l.names ≡ take l.wire-index l.wires
