use Rattle.std.proofs.Common.{◌≡◌, take, map}
use Rattle.std.specs.List.{flat_map}
use Rattle.verilog_reader.specs.View.{module_view}
use Rattle.design_text.specs.Parts.{parts_text}
use Rattle.design_text.specs.Written as spec
use Rattle.design_text.proofs.modules.design_text.Given as goal

abbrev pub invariant-loop-next : goal.invariant-loop-next
invariant-loop-next l = l.text ≡ parts_text (flat_map spec.module_parts (map module_view (take l.next-index l.design.modules)))
