use Rattle.std.proofs.Common.{◌≡◌, ◌++◌, take, map}
use Rattle.design_text.specs.Parts.{bit_digit}
use Rattle.design_text.proofs.names.digits.Given as goal

abbrev pub invariant-loop-bit : goal.invariant-loop-bit
invariant-loop-bit l = l.text ≡ l.initial.text ++ map bit_digit (take l.bit-index l.bits)
