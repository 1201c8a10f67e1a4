use Rattle.std.proofs.Common.{◌≡◌, ◌++◌, map, take}
use Rattle.std.specs.List.{enumerate_from}
use Rattle.agm_net.specs.Plain.{stored_of}
use Rattle.agm_net.specs.View.{plain_of}
use Rattle.net_design.specs.Design.{form_of, register_item}
use Rattle.net_design.specs.Lines.{lines_text}
use Rattle.net_design.proofs.text.add_registers.Given as goal

abbrev pub invariant-loop-i : goal.invariant-loop-i
invariant-loop-i l = l.text ≡ l.initial.text ++ lines_text (map (register_item (form_of (plain_of l.net) l.sites) l.margin) (enumerate_from l.first (map stored_of (take l.i l.registers))))
