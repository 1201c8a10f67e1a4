use Rattle.std.proofs.Common.{◌≡◌, ◌++◌, take}
use Rattle.stimulus.specs.Answer.{bits_in}
use Rattle.stimulus.proofs.steps.add_bits.Given as goal

abbrev pub invariant-loop-byte : goal.invariant-loop-byte
invariant-loop-byte l = l.row ≡ l.initial.row ++ bits_in (take l.byte-index l.text)
