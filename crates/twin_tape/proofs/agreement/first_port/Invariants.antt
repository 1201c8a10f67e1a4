use Rattle.std.proofs.Common.{◌≡◌, ◌+◌, drop, length}
use Rattle.agm_net.specs.View.{plain_of}
use Rattle.twin_tape.specs.Differences.{columns, columns_from, first_difference}
use Rattle.twin_tape.proofs.agreement.first_port.Given as goal

abbrev pub invariant-loop-number : goal.invariant-loop-number
invariant-loop-number l = record {
  counted : l.from + length (columns_from l.net.clock l.number (drop l.number l.net.ports)) ≡ length l.first;
  same : first_difference l.indices (columns_from l.net.clock l.number (drop l.number l.net.ports)) (drop l.from l.first) (drop l.from l.second) ≡ first_difference l.indices (columns (plain_of l.net)) l.first l.second;
}
