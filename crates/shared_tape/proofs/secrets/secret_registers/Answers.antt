use Rattle.std.proofs.Common.{subst}
use Rattle.share_wiring.specs.Same.{TellsSecrets}
use Rattle.agm_net.specs.View.{plain_of}
use Rattle.shared_tape.proofs.Marked.{registers_told, none_leaks, clock_is_open}
use Rattle.shared_tape.proofs.secrets.secret_registers.Goals as goal

pub returns-in-Ok : goal.returns-in-Ok
returns-in-Ok c =
    let net = plain_of c.args.net.now in
    subst (λ marks. TellsSecrets net marks c.in-Ok.secrets.registers) c.in_ok-marks.ensures (registers_told net c.in_ok-graph.graph c.in_ok-marks.marks.kinds c.in-Ok.secrets c.in-Ok.ensures.ok)

pub unreachable-requires : goal.unreachable-requires
unreachable-requires c =
    let leak = rw c.in-Err-Leak.field-0-is at c.in-Err-Leak.ensures.leak in
    none_leaks (plain_of c.args.net.now) c.args.report.now c.in_ok-marks.marks.kinds c.in-Err-Leak.field-0-0 c.in_ok-marks.ensures leak.0

pub spread-requires-clause-clock : goal.spread-requires-clause-clock
spread-requires-clause-clock c = clock_is_open (plain_of c.args.net.now) c.args.report.now c.in_ok-marks.marks.kinds c.in_ok-marks.ensures
