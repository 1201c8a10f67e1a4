use Rattle.std.proofs.Common.{◌≡◌, map, take}
use Rattle.logic_graph.specs.Settled.{bit_of}
use Rattle.secrecy_spread.proofs.spreading.flags_of.Given as goal

abbrev pub invariant-loop-wire : goal.invariant-loop-wire
invariant-loop-wire l = l.flags ≡ map (λ w. bit_of l.secret w) (take l.wire-index l.wires)
