use Rattle.std.proofs.Common.{◌≡◌, List, Option, Some, None, slice_get, ap, sym, ◌∙◌}
use Rattle.std.specs.Option.{option_map}
use Rattle.std.proofs.lemmas.Option.{slice_get-map}
use Rattle.std.proofs.lemmas.Result.{IfOk-weaker}
use Rattle.cell_library.specs.declared.types.Pin.{Pin}
use Rattle.cell_library.specs.Judged.{PlainPin, PlainCell}
use Rattle.cell_library.specs.Spelled.{cell_of, pin_of}
use Rattle.bound_items.specs.Events.{Event}
use Rattle.bound_items.specs.Items.{function_lines, output_lines, pin_function}
use Rattle.bound_items.specs.State.{State, state_of, after}
use Rattle.bound_items.specs.declared.netlist.Netlist.{Netlist}
use Rattle.bound_items.proofs.outputs.add_output.Goals as goal
use Rattle.bound_items.proofs.Steps.{output_some, output_none}

pub returns-in-Some-pin_at : goal.returns-in-Some-pin_at
returns-in-Some-pin_at c =
    let s : State = state_of c.args.netlist in
    let cell : PlainCell = cell_of c.args.site.cell.now in
    let pin : PlainPin = pin_of c.in-Some-pin_at.pin.now in
    let raw : Some c.in-Some-pin_at.pin.now ≡ slice_get c.args.site.cell.now.pins c.args.number =
    c.in-Some-pin_at.ensures ∙ ap (λ (ps : List Pin). slice_get ps c.args.number) c.as_slice.ensures in
    let found : Some pin ≡ slice_get cell.pins c.args.number =
    ap (λ (o : Option Pin). option_map pin_of o) raw ∙ sym (slice_get-map pin_of c.args.site.cell.now.pins c.args.number) in
    let here : List Event = function_lines c.args.operands.now (Some c.in-Some.target) (pin_function (Some pin)) in
    let there : List Event = output_lines cell c.args.site.bits.now c.args.operands.now (Some c.args.number) in
    let e : here ≡ there = output_some cell c.args.site.bits.now c.args.operands.now c.args.number c.in-Some.target pin c.in-Some.ensures found in
    IfOk-weaker c.add_function.result (λ (n : Netlist). state_of n ≡ after s here) (λ (n : Netlist). state_of n ≡ after s there) (λ n p. p ∙ ap (λ es. after s es) e) c.add_function.ensures

pub returns-in-None-pin_at : goal.returns-in-None-pin_at
returns-in-None-pin_at c =
    let cell : PlainCell = cell_of c.args.site.cell.now in
    let raw : None ≡ slice_get c.args.site.cell.now.pins c.args.number = c.in-None-pin_at.ensures ∙ ap (λ (ps : List Pin). slice_get ps c.args.number) c.as_slice.ensures in
    let found : None ≡ slice_get cell.pins c.args.number =
    ap (λ (o : Option Pin). option_map pin_of o) raw ∙ sym (slice_get-map pin_of c.args.site.cell.now.pins c.args.number) in
    ap (λ es. after (state_of c.args.netlist) es) (output_none cell c.args.site.bits.now c.args.operands.now c.args.number c.in-Some.target c.in-Some.ensures found)
