use Rattle.std.proofs.Common.{◌≡◌, ◌++◌, take}
use Rattle.std.specs.List.{flat_map}
use Rattle.small_text.specs.Written as spec
use Rattle.small_text.proofs.print.declarations.Given as goal

abbrev pub invariant-loop-next : goal.invariant-loop-next
invariant-loop-next l = l.text ≡ l.initial.text ++ spec.parts_text (flat_map spec.declaration_parts (take l.next-index l.declarations))
