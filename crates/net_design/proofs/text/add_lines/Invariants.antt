use Rattle.std.proofs.Common.{◌≡◌, ◌++◌, map, take}
use Rattle.std.specs.List.{enumerate_from}
use Rattle.agm_net.specs.Plain.{line_of}
use Rattle.agm_net.specs.View.{plain_of}
use Rattle.net_design.specs.Design.{form_of, line_item}
use Rattle.net_design.specs.Lines.{lines_text}
use Rattle.net_design.proofs.text.add_lines.Given as goal

abbrev pub invariant-loop-number : goal.invariant-loop-number
invariant-loop-number l = l.text ≡ l.initial.text ++ lines_text (map (line_item (form_of (plain_of l.net) l.sites) l.margin) (enumerate_from 0 (map line_of (take l.number l.equations))))
