use Rattle.std.proofs.Common.{◌≡◌, ◌++◌, take}
use Rattle.std.specs.List.{enumerate_from, flat_map}
use Rattle.net_design.specs.Design.{own_item}
use Rattle.net_design.specs.Lines.{lines_text}
use Rattle.net_design.proofs.text.add_wires.Given as goal

abbrev pub invariant-loop-wire : goal.invariant-loop-wire
invariant-loop-wire l = l.text ≡ l.initial.text ++ lines_text (flat_map (own_item l.sites) (enumerate_from 0 (take l.wire l.names)))
