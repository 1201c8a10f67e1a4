use Rattle.std.proofs.Common.{◌∙◌}
use Rattle.agm_net.proofs.Nets.{all_right, first_is_wrong, match_both}
use Rattle.agm_net.proofs.checks.first_wrong.Goals as goal

pub returns : goal.returns
returns c = λ clock.
    match_both c.first_not_once.result c.first_not_once.ensures
    (all_right c.args.ports.now c.args.wires.now c.args.equations.now c.args.registers.now clock _ (c.as_slice.ensures.value ∙ c.in_ok-counts.ensures) _ c.in_ok-repeated.ensures)
    (first_is_wrong c.args.ports.now c.args.wires.now c.args.equations.now c.args.registers.now clock _ (c.as_slice.ensures.value ∙ c.in_ok-counts.ensures) _ c.in_ok-repeated.ensures)
