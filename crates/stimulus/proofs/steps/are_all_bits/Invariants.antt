use Rattle.std.proofs.Common.{◌≡◌, drop}
use Rattle.std.specs.List.{list_all}
use Rattle.stimulus.specs.Asked.{is_bit}
use Rattle.stimulus.proofs.steps.are_all_bits.Given as goal

abbrev pub invariant-loop-byte : goal.invariant-loop-byte
invariant-loop-byte l = list_all is_bit (drop l.byte-index l.text) ≡ list_all is_bit l.text
