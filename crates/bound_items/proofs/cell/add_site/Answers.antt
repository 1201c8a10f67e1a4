use Rattle.std.proofs.Common.{◌≡◌, List, Option, map, ap, ◌∙◌}
use Rattle.std.proofs.lemmas.Result.{IfOk-weaker}
use Rattle.verilog_reader.specs.View.{pin_view}
use Rattle.verilog_reader.specs.Plain.{PlainConnection}
use Rattle.form_bits.specs.declared.types.Bit.{Bit}
use Rattle.cell_library.specs.Judged.{PlainCell}
use Rattle.cell_library.specs.Spelled.{cell_of}
use Rattle.bound_items.specs.Items.{pins_count, state_events}
use Rattle.bound_items.specs.State.{State, state_of, after}
use Rattle.bound_items.specs.declared.netlist.Netlist.{Netlist}
use Rattle.bound_items.proofs.cell.add_site.Goals as goal
use Rattle.bound_items.proofs.Steps.{site_done}

pub returns : goal.returns
returns c =
    let s : State = state_of c.args.netlist in
    let b : State = state_of c.in_ok-netlist-2.netlist in
    let cell : PlainCell = cell_of c.args.site.cell.now in
    let pins : List PlainConnection = map pin_view c.args.pins.now in
    let bits : List (Option Bit) = c.args.site.bits.now in
    IfOk-weaker c.add_pins.result
    (λ (n : Netlist). state_of n ≡ after b (pins_count c.args.site.instance.now cell bits c.args.site.state 0 cell.pins))
    (λ (n : Netlist). state_of n ≡ after s (state_events c.args.site.instance.now cell pins bits c.args.site.state))
    (λ n p. site_done c.args.site.instance.now cell pins bits c.as_slice.result.now c.args.site.state s (state_of c.in_ok-netlist.netlist) b (state_of n)
    (c.as_slice.ensures ∙ c.in_ok-operands.ensures) c.in_ok-netlist.ensures c.in_ok-netlist-2.ensures p)
    c.add_pins.ensures
