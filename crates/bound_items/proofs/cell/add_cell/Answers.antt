use Rattle.std.proofs.Common.{◌≡◌, ◌++◌, [], List, Option, Some, None, Ok, map, length}
use Rattle.std.specs.List.{range_with_len}
use Rattle.verilog_reader.specs.View.{pin_view}
use Rattle.verilog_reader.specs.Plain.{PlainConnection}
use Rattle.form_bits.specs.Forms.{Look, look_in}
use Rattle.form_bits.specs.declared.types.Bit.{Bit}
use Rattle.cell_library.specs.Judged.{PlainCell}
use Rattle.cell_library.specs.Spelled.{cell_of}
use Rattle.cell_faces.specs.Cells.{cell_pins, pin_name, pin_spot}
use Rattle.bound_items.specs.Events.{Event}
use Rattle.bound_items.specs.Items.{pins_broken, pin_bits, state_bit, state_wires, state_events}
use Rattle.bound_items.specs.State.{State, state_of, UnlessMemory}
use Rattle.bound_items.specs.declared.fault.BindFault.{BindFault}
use Rattle.bound_items.proofs.cell.add_cell.Goals as goal
use Rattle.bound_items.proofs.Gives.{unless_gives, unless_broken}
use Rattle.bound_items.proofs.Steps.{same_face}

pub returns-in-Ok : goal.returns-in-Ok
returns-in-Ok c =
    let s : State = state_of c.args.netlist in
    let cell : PlainCell = cell_of c.args.cell.now in
    let pins : List PlainConnection = map pin_view c.args.wires.pins.now in
    let look : Look = look_in c.args.wires.scope.now.names c.args.wires.scope.now.spots in
    let bits : List (Option Bit) = pin_bits cell pins look c.args.wires.base in
    let es : List Event = state_wires c.args.instance.now cell cell.state ++ state_events c.args.instance.now cell pins bits (state_bit cell bits (length s.names) cell.state) in
    let right : pins_broken c.args.instance.now (cell_pins cell) look [] pins ≡ None =
    same_face (λ (face : Look). pins_broken c.args.instance.now face look [] pins ≡ None) _ _ _ _ c.requires.names c.requires.spots c.in-Ok.ensures.checks in
    unless_gives s (pins_broken c.args.instance.now (cell_pins cell) look [] pins) es c.add_checked.result right c.add_checked.ensures

pub returns-in-Err : goal.returns-in-Err
returns-in-Err c =
    let s : State = state_of c.args.netlist in
    let cell : PlainCell = cell_of c.args.cell.now in
    let pins : List PlainConnection = map pin_view c.args.wires.pins.now in
    let look : Look = look_in c.args.wires.scope.now.names c.args.wires.scope.now.spots in
    let bits : List (Option Bit) = pin_bits cell pins look c.args.wires.base in
    let es : List Event = state_wires c.args.instance.now cell cell.state ++ state_events c.args.instance.now cell pins bits (state_bit cell bits (length s.names) cell.state) in
    let broken : UnlessMemory c.in-Err.fault (pins_broken c.args.instance.now (cell_pins cell) look [] pins ≡ Some c.in-Err.fault) =
    same_face (λ (face : Look). UnlessMemory c.in-Err.fault (pins_broken c.args.instance.now face look [] pins ≡ Some c.in-Err.fault)) _ _ _ _ c.requires.names c.requires.spots c.in-Err.ensures.checks in
    unless_broken s (pins_broken c.args.instance.now (cell_pins cell) look [] pins) es c.in-Err.fault broken
