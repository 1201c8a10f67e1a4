use Rattle.std.proofs.Common.{◌≡◌, ◌++◌, map, take}
use Rattle.std.specs.List.{enumerate_from}
use Rattle.net_design.specs.Design.{port_item}
use Rattle.net_design.specs.Lines.{lines_text}
use Rattle.net_design.proofs.text.add_ports.Given as goal

abbrev pub invariant-loop-number : goal.invariant-loop-number
invariant-loop-number l = l.text ≡ l.initial.text ++ lines_text (map (port_item l.clock) (enumerate_from 0 (take l.number l.ports)))
