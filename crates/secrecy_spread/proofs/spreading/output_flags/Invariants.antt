use Rattle.std.proofs.Common.{◌≡◌, map, take}
use Rattle.logic_graph.specs.Settled.{bit_of}
use Rattle.secrecy_spread.proofs.spreading.output_flags.Given as goal

abbrev pub invariant-loop-register : goal.invariant-loop-register
invariant-loop-register l = l.flags ≡ map (λ r. bit_of l.secret r.q) (take l.register-index l.registers)
