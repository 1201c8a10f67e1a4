use Rattle.std.proofs.Common.{◌≡◌, ◌++◌, take}
use Rattle.std.specs.List.{flat_map}
use Rattle.design_text.specs.Parts.{parts_text}
use Rattle.design_text.specs.Written as spec
use Rattle.design_text.proofs.items.attributes.Given as goal

abbrev pub invariant-loop-next : goal.invariant-loop-next
invariant-loop-next l = l.text ≡ l.initial.text ++ parts_text (flat_map spec.attribute_parts (take l.next-index l.attributes))
