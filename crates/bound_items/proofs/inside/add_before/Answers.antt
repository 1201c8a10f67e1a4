use Rattle.std.proofs.Common.{map}
use Rattle.verilog_reader.specs.View.{pin_view, module_view}
use Rattle.form_bits.specs.Forms.{look_in}
use Rattle.bound_items.specs.State.{state_of}
use Rattle.bound_items.proofs.inside.add_before.Goals as goal
use Rattle.bound_items.proofs.Instances.{before_given}

pub returns : goal.returns
returns c =
    before_given c.args.instance.now (module_view c.args.inside.module.now) c.args.inside.outline.now (look_in c.args.wires.scope.now.names c.args.wires.scope.now.spots) c.args.wires.base
    (map pin_view c.args.wires.pins.now) (state_of c.args.netlist) c.requires (state_of c.in_ok-add_checked.field-0) c.in_ok-table.ensures.checks c.in_ok-add_checked.ensures
