use Rattle.std.proofs.Common.{◌≡◌, List, Ok}
use Rattle.verilog_reader.specs.View.{form_view}
use Rattle.form_bits.specs.Forms.{Look, look_in, form_bits}
use Rattle.form_bits.specs.declared.types.Bit.{Bit}
use Rattle.bound_items.specs.Items.{assign_broken, plain_lines}
use Rattle.bound_items.specs.State.{state_of}
use Rattle.bound_items.proofs.assign.add_assign.Goals as goal
use Rattle.bound_items.proofs.Gives.{unless_gives, plain_quiet}

pub returns : goal.returns
returns c =
    let look : Look = look_in c.args.scope.now.names c.args.scope.now.spots in
    let targets : List Bit = form_bits look c.args.base (form_view c.args.left.now) in
    let values : List Bit = form_bits look c.args.base (form_view c.args.right.now) in
    unless_gives (state_of c.args.netlist) (assign_broken look (form_view c.args.left.now) (form_view c.args.right.now)) (plain_lines targets values)
    (Ok c.in_ok-add_sides.field-0) c.in_ok-check_assign.ensures (plain_quiet c.args.netlist.wires targets values, c.in_ok-add_sides.ensures)
