use Rattle.std.proofs.Common.{◌≡◌, ◌++◌, take}
use Rattle.logic_graph.specs.Sources as sources
use Rattle.logic_graph.proofs.sources.add_bits.Given as goal

abbrev pub invariant-loop-port : goal.invariant-loop-port
invariant-loop-port l = l.bits ≡ l.initial.bits ++ sources.bits_of l.way (take l.port-index l.ports)
