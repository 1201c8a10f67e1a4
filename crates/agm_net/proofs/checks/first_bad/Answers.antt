use Rattle.agm_net.specs.Plain.{plain}
use Rattle.agm_net.proofs.Parts.{by_wires}
use Rattle.agm_net.proofs.checks.first_bad.Goals as goal

pub returns : goal.returns
returns c = by_wires (plain c.args.ports.now c.args.wires.now c.args.equations.now c.args.registers.now c.args.clock) c.first_wrong.result (c.in_ok-are_parts_right.ensures.0 c.if-not-branch.false) (c.first_wrong.ensures c.args.clock)
