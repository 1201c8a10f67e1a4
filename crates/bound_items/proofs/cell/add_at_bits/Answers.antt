use Rattle.std.proofs.Common.{List, Option, map}
use Rattle.verilog_reader.specs.View.{pin_view}
use Rattle.verilog_reader.specs.Plain.{PlainConnection}
use Rattle.cell_library.specs.Judged.{PlainCell}
use Rattle.cell_library.specs.Spelled.{cell_of}
use Rattle.bound_items.specs.Items.{state_wires, state_events}
use Rattle.bound_items.specs.State.{state_of}
use Rattle.bound_items.proofs.cell.add_at_bits.Goals as goal
use Rattle.bound_items.proofs.Gives.{gives_then, gives_broken}
use Rattle.bound_items.proofs.Quiet.{state_quiet}

pub returns-in_ok-add_site-in-Ok : goal.returns-in_ok-add_site-in-Ok
returns-in_ok-add_site-in-Ok c =
    let cell : PlainCell = cell_of c.args.site.cell.now in
    let pins : List PlainConnection = map pin_view c.args.pins.now in
    gives_then (state_of c.args.netlist) (state_wires c.args.site.instance.now cell cell.state) (state_events c.args.site.instance.now cell pins c.args.site.bits.now c.args.site.state)
    c.in-Ok.netlist c.in_ok-add_site-in-Ok.field-0 c.in-Ok.ensures
    (state_quiet c.args.site.instance.now cell pins c.args.site.bits.now c.args.site.state c.in-Ok.netlist.wires) c.in_ok-add_site-in-Ok.ensures

pub returns-in-Err : goal.returns-in-Err
returns-in-Err c =
    let cell : PlainCell = cell_of c.args.site.cell.now in
    gives_broken (state_of c.args.netlist) (state_wires c.args.site.instance.now cell cell.state)
    (state_events c.args.site.instance.now cell (map pin_view c.args.pins.now) c.args.site.bits.now c.args.site.state) c.in-Err.fault c.in-Err.ensures
