use Rattle.std.proofs.Common.{◌≡◌, drop}
use Rattle.std.specs.List.{list_any}
use Rattle.logic_graph.specs.Settled.{bit_of}
use Rattle.secrecy_spread.proofs.ports.is_any_secret.Given as goal

abbrev pub invariant-loop-wire : goal.invariant-loop-wire
invariant-loop-wire l = list_any (bit_of l.secret) (drop l.wire-index l.wires) ≡ list_any (bit_of l.secret) l.wires
