use Rattle.std.proofs.Common.{◌≡◌, take}
use Rattle.verilog_reader.proofs.attributes.copy_attributes.Given as goal

abbrev pub invariant-loop-attribute : goal.invariant-loop-attribute
invariant-loop-attribute l = l.copy ≡ take l.attribute-index l.attributes
