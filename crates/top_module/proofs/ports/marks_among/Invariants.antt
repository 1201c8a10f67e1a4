use Rattle.std.proofs.Common.{◌≡◌, take}
use Rattle.top_module.specs.Marks.{mark_set, mark_values}
use Rattle.top_module.proofs.ports.marks_among.Given as goal

abbrev pub invariant-loop-attribute : goal.invariant-loop-attribute
invariant-loop-attribute l = l.marks ≡ mark_set (mark_values (take l.attribute-index l.attributes))
