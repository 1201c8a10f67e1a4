use Rattle.std.proofs.Common.{◌++◌, reverse}
use Rattle.std.proofs.lemmas.Result.{err_from_is_err_and}
use Rattle.bound_items.specs.State.{state_of, nothing, Gives}
use Rattle.net_binding.specs.Ready.{plain_parts}
use Rattle.net_binding.specs.Walk.{design_events}
use Rattle.net_binding.proofs.steps.walk.Goals as goal
use Rattle.net_binding.proofs.Given.{handed_on, walk_given, walk_fails}

pub returns-in_err-netlist : goal.returns-in_err-netlist
returns-in_err-netlist c =
    handed_on (Gives nothing (design_events (plain_parts c.args.parts.modules.now (c.args.parts.known.now ++ c.args.parts.library.now)) c.args.top)) c.from_residual.result c.in_err-netlist.field-0.0
    (err_from_is_err_and c.from_residual.result c.from_residual.ensures.1)
    (walk_fails c.args.parts.modules.now (c.args.parts.known.now ++ c.args.parts.library.now) c.args.own.module.now c.args.own.outline.now c.args.top c.new-prefix.result c.as_slice.result.now (state_of c.empty_netlist.result) c.in_err-netlist.field-0.0
    c.requires.own c.requires.own_outline c.new-prefix.ensures c.as_slice.ensures c.empty_netlist.ensures c.in_err-netlist.ensures)

pub returns : goal.returns
returns c =
    walk_given c.args.parts.modules.now (c.args.parts.known.now ++ c.args.parts.library.now) c.args.own.module.now c.args.own.outline.now c.args.top c.new-prefix.result c.as_slice.result.now c.new-outer.result.items (state_of c.empty_netlist.result) (state_of c.in_ok-netlist.netlist) c.run.result
    c.requires.own c.requires.own_outline c.new-prefix.ensures c.as_slice.ensures c.new-outer.ensures.items c.empty_netlist.ensures c.in_ok-netlist.ensures c.run.ensures
