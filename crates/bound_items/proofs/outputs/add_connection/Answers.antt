use Rattle.std.proofs.Common.{◌≡◌, List, Option, Some, map, position, ap, ◌∙◌}
use Rattle.std.specs.Str.{bytes_eq}
use Rattle.std.proofs.lemmas.Result.{IfOk-weaker}
use Rattle.verilog_reader.specs.View.{pin_view}
use Rattle.cell_library.specs.Judged.{PlainCell}
use Rattle.cell_library.specs.Spelled.{cell_of}
use Rattle.cell_faces.specs.Cells.{pin_name}
use Rattle.form_bits.specs.Forms.{Text}
use Rattle.form_bits.specs.declared.types.Bit.{Bit}
use Rattle.bound_items.specs.Events.{Event}
use Rattle.bound_items.specs.Items.{output_lines, cell_lines}
use Rattle.bound_items.specs.State.{State, state_of, after}
use Rattle.bound_items.specs.declared.netlist.Netlist.{Netlist}
use Rattle.bound_items.proofs.outputs.add_connection.Goals as goal

pub returns-in-Some : goal.returns-in-Some
returns-in-Some c =
    let s : State = state_of c.args.netlist in
    let cell : PlainCell = cell_of c.args.site.cell.now in
    let bits : List (Option Bit) = c.args.site.bits.now in
    let operands : List (Option Bit) = c.args.operands.now in
    let place : Some c.in-Some.number ≡ position (λ n. bytes_eq n c.args.connection.now.pin) (map pin_name cell.pins) =
    c.in-Some.ensures
    ∙ (ap (λ (m : Text). position (λ n. bytes_eq n m) c.args.face.now.names) c.as_slice.ensures
    ∙ ap (λ (ns : List Text). position (λ n. bytes_eq n c.args.connection.now.pin) ns) c.requires) in
    let here : List Event = output_lines cell bits operands (Some c.in-Some.number) in
    let there : List Event = cell_lines cell bits operands (pin_view c.args.connection.now) in
    let e : here ≡ there = ap (λ o. output_lines cell bits operands o) place in
    IfOk-weaker c.add_output.result (λ (n : Netlist). state_of n ≡ after s here) (λ (n : Netlist). state_of n ≡ after s there) (λ n p. p ∙ ap (λ es. after s es) e) c.add_output.ensures
