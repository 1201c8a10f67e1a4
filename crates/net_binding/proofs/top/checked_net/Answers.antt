use Rattle.std.proofs.Common.{sym, ◌∙◌}
use Rattle.net_binding.proofs.top.checked_net.Goals as goal
use Rattle.net_binding.proofs.Made.{checked_given}

pub returns : goal.returns
returns c =
    checked_given c.args.netlist c.args.ports.now c.args.clock c.as_slice-wires.result.now c.as_slice-lines.result.now c.as_slice-flops.result.now c.in_ok-wrong.field-0 c.net_of.result
    c.as_slice-wires.ensures c.as_slice-lines.ensures c.as_slice-flops.ensures c.in_ok-wrong.ensures c.in-None.is c.net_of.ensures
