use Rattle.std.proofs.Common.{position, ap, sym, ◌∙◌}
use Rattle.cell_library.specs.Spelled.{pin_of}
use Rattle.bound_items.specs.Items.{is_state_pin}
use Rattle.bound_items.proofs.register.state_place.Goals as goal
use Rattle.bound_items.proofs.Steps.{position_map}

pub returns : goal.returns
returns c =
    c.first_state_pin.ensures
    ∙ (ap (position (λ p. is_state_pin (pin_of p))) c.as_slice.ensures ∙ sym (position_map is_state_pin pin_of c.args.cell.now.pins))
