use Rattle.std.proofs.Common.{◌≡◌, ◌++◌, map, take}
use Rattle.sim_text.specs.Text.{digit, bit_in}
use Rattle.sim_text.proofs.lines.push_bits.Given as goal

abbrev pub invariant-loop-wire : goal.invariant-loop-wire
invariant-loop-wire l = l.text ≡ l.initial.text ++ map (λ w. digit (bit_in l.row w)) (take l.wire-index l.wires)
