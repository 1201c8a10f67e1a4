use Rattle.std.proofs.Common.{◌++◌, map, length}
use Rattle.std.proofs.lemmas.Result.{err_from_is_err_and}
use Rattle.verilog_reader.specs.View.{pin_view, module_view}
use Rattle.form_bits.specs.Forms.{look_in}
use Rattle.module_outlines.specs.View.{wide_view}
use Rattle.bound_items.specs.Items.{before_events, entered}
use Rattle.bound_items.specs.State.{state_of, Gives}
use Rattle.net_binding.proofs.inside.add_front.Goals as goal
use Rattle.net_binding.proofs.Given.{handed_on, front_given, front_fails, inner_is}

pub returns-in_err-netlist : goal.returns-in_err-netlist
returns-in_err-netlist c =
    let before = before_events c.args.site.now (module_view c.args.inside.module.now) (look_in c.args.wires.scope.now.names c.args.wires.scope.now.spots) c.args.wires.base (length (state_of c.args.netlist).names) (map pin_view c.args.wires.pins.now) in
    handed_on (Gives (state_of c.args.netlist) (before ++ entered c.args.prefix.now (module_view c.args.inside.module.now))) c.from_residual.result c.in_err-netlist.field-0.0
    (err_from_is_err_and c.from_residual.result c.from_residual.ensures.1)
    (front_fails (state_of c.args.netlist) before (entered c.args.prefix.now (module_view c.args.inside.module.now)) c.in_err-netlist.field-0.0 c.in_err-netlist.ensures)

pub returns : goal.returns
returns c =
    let before = before_events c.args.site.now (module_view c.args.inside.module.now) (look_in c.args.wires.scope.now.names c.args.wires.scope.now.spots) c.args.wires.base (length (state_of c.args.netlist).names) (map pin_view c.args.wires.pins.now) in
    front_given (state_of c.args.netlist) (state_of c.in_ok-netlist.netlist) before _ (entered c.args.prefix.now (module_view c.args.inside.module.now)) c.enter.result c.in_ok-netlist.ensures c.enter.ensures
    (inner_is c.args.prefix.now (module_view c.args.inside.module.now) c.args.inside.outline.now c.as_slice.result.now c.requires c.as_slice.ensures)
