use Rattle.std.proofs.Common.{map, length, ◌∙◌, ap, ℕ}
use Rattle.std.specs.List.{flat_map}
use Rattle.verilog_reader.specs.View.{pin_view, module_view}
use Rattle.form_bits.specs.Forms.{Look, look_in}
use Rattle.bound_items.specs.Items.{in_lines, port_counts}
use Rattle.bound_items.specs.State.{state_of, after}
use Rattle.bound_items.proofs.inside.add_checked.Goals as goal
use Rattle.bound_items.proofs.Instances.{both_ok}

pub returns : goal.returns
returns c =
    let look : Look = look_in c.args.wires.scope.now.names c.args.wires.scope.now.spots in
    both_ok (state_of c.args.netlist) (state_of c.in_ok-netlist.netlist) (flat_map (in_lines (module_view c.args.inside.module.now) (length c.args.netlist.wires) look c.args.wires.base) (map pin_view c.args.wires.pins.now))
    (flat_map (port_counts c.args.instance.now (module_view c.args.inside.module.now) look c.args.wires.base (map pin_view c.args.wires.pins.now)) c.args.inside.module.now.ports) c.add_ports.result
    c.add_ports.ensures
    (c.in_ok-netlist.ensures ∙ ap (λ (n : ℕ). after (state_of c.args.netlist) (flat_map (in_lines (module_view c.args.inside.module.now) n look c.args.wires.base) (map pin_view c.args.wires.pins.now))) c.len-n.ensures)
