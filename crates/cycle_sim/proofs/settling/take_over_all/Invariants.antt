use Rattle.std.proofs.Common.{◌≡◌, map, take}
use Rattle.logic_graph.specs.Settled.{bit_of}
use Rattle.cycle_sim.proofs.settling.take_over_all.Given as goal

abbrev pub invariant-loop-k : goal.invariant-loop-k
invariant-loop-k l = take l.k l.registers ≡ map (λ s. bit_of l.values s) (take l.k l.sinks)
