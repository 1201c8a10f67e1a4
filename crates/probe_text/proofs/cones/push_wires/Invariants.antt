use Rattle.std.proofs.Common.{◌≡◌, ◌++◌, take}
use Rattle.std.specs.List.{flat_map}
use Rattle.probe_text.specs.Text.{wire_text}
use Rattle.probe_text.proofs.cones.push_wires.Given as goal

abbrev pub invariant-loop-wire : goal.invariant-loop-wire
invariant-loop-wire l = l.text ≡ l.initial.text ++ flat_map (wire_text l.names) (take l.wire-index l.wires)
