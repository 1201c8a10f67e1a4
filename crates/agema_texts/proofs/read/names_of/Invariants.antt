use Rattle.std.proofs.Common.{◌≡◌, map, take}
use Rattle.agm_net.specs.View.{plain_of}
use Rattle.agema_texts.specs.Original.{wire_name}
use Rattle.agema_texts.proofs.read.names_of.Given as goal

abbrev pub invariant-loop-wire : goal.invariant-loop-wire
invariant-loop-wire l = l.names ≡ map (wire_name (plain_of l.net)) (take l.wire-index l.wires)
