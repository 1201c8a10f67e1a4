use Rattle.std.proofs.Common.{◌≡◌, List, Option, map, length, ap, ◌∙◌}
use Rattle.verilog_reader.specs.View.{pin_view}
use Rattle.verilog_reader.specs.Plain.{PlainConnection}
use Rattle.form_bits.specs.Forms.{Look, look_in}
use Rattle.form_bits.specs.declared.types.Bit.{Bit}
use Rattle.cell_library.specs.Judged.{PlainPin, PlainCell}
use Rattle.cell_library.specs.Spelled.{cell_of, pin_of}
use Rattle.cell_library.specs.declared.types.Pin.{Pin}
use Rattle.bound_items.specs.Items.{pin_bits, first_bit, connected, state_bit}
use Rattle.bound_items.specs.State.{State, state_of}
use Rattle.bound_items.proofs.cell.add_checked.Goals as goal
use Rattle.bound_items.proofs.Steps.{at_bits}

pub returns : goal.returns
returns c =
    let s : State = state_of c.args.netlist in
    let cell : PlainCell = cell_of c.args.cell.now in
    let pins : List PlainConnection = map pin_view c.args.wires.pins.now in
    let look : Look = look_in c.args.wires.scope.now.names c.args.wires.scope.now.spots in
    let bits : List (Option Bit) = pin_bits cell pins look c.args.wires.base in
    let are : c.in_ok-bits.bits ≡ bits =
    c.in_ok-bits.ensures ∙ ap (λ (ps : List Pin). map (λ (p : PlainPin). first_bit (connected pins look c.args.wires.base p.name)) (map pin_of ps)) c.as_slice.ensures in
    let place : c.state_bit-state.result ≡ state_bit cell bits (length s.names) cell.state =
    c.state_bit-state.ensures
    ∙ (ap (λ (bs : List (Option Bit)). state_bit cell bs c.len.result cell.state) (c.as_slice-2.ensures ∙ are) ∙ ap (λ n. state_bit cell bits n cell.state) c.len.ensures) in
    at_bits s c.args.instance.now cell pins c.as_slice-3.result.now bits c.state_bit-state.result (state_bit cell bits (length s.names) cell.state) c.add_at_bits.result
    (c.as_slice-3.ensures ∙ are) place c.add_at_bits.ensures
