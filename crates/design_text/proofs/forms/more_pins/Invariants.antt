use Rattle.std.proofs.Common.{◌≡◌, ◌++◌, take, map}
use Rattle.std.specs.List.{flat_map}
use Rattle.verilog_reader.specs.View.{pin_view}
use Rattle.design_text.specs.Parts.{parts_text}
use Rattle.design_text.specs.Written as spec
use Rattle.design_text.proofs.forms.more_pins.Given as goal

abbrev pub invariant-loop-next : goal.invariant-loop-next
invariant-loop-next l = l.text ≡ l.initial.text ++ parts_text (flat_map spec.next_pin (map pin_view (take l.next-index l.pins)))
