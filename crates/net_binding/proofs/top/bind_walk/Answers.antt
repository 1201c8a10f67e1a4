use Rattle.std.proofs.Common.{◌++◌, ◌∙◌}
use Rattle.verilog_reader.specs.View.{module_view}
use Rattle.net_binding.specs.Ready.{plain_parts}
use Rattle.net_binding.proofs.top.bind_walk.Goals as goal
use Rattle.net_binding.proofs.Given.{some_map}
use Rattle.net_binding.proofs.Made.{walk_given}

pub returns : goal.returns
returns c =
    walk_given (plain_parts c.args.parts.modules.now (c.args.parts.known.now ++ c.args.parts.library.now)) c.args.top (module_view c.in-Some.own.module.now) c.in_ok-netlist.netlist c.as_slice.result.now c.in_ok-clock.clock c.checked_net.result
    (some_map module_view c.args.parts.modules.now c.args.top c.in-Some.own.module.now c.in-Some.ensures.0) c.in_ok-netlist.ensures
    (c.as_slice.ensures ∙ c.in_ok-ports.ensures (module_view c.in-Some.own.module.now) c.in-Some.ensures.1) c.in_ok-clock.ensures c.checked_net.ensures
