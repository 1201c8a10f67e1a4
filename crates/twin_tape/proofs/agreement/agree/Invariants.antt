use Rattle.std.proofs.Common.{◌≡◌, drop}
use Rattle.agm_net.specs.View.{plain_of}
use Rattle.twin_tape.specs.Differences.{agreement, columns}
use Rattle.twin_tape.proofs.agreement.agree.Given as goal

abbrev pub invariant-loop-cycle : goal.invariant-loop-cycle
invariant-loop-cycle l = agreement l.indices (columns (plain_of l.net)) l.cycle (drop l.cycle l.first.rows) (drop l.cycle l.second.rows) ≡ agreement l.indices (columns (plain_of l.net)) 0 l.first.rows l.second.rows
