use Rattle.std.proofs.Common.{◌≡◌, map, drop}
use Rattle.bound_items.specs.Events.{wire, first_broken}
use Rattle.bound_items.specs.State.{state_of, after}
use Rattle.bound_items.proofs.entered.add_wires.Given as goal

abbrev pub invariant-loop-name : goal.invariant-loop-name
invariant-loop-name l =
    (first_broken (state_of l.netlist).names (map (λ t. wire t) (drop l.name-index l.names)) ≡ first_broken (state_of l.initial.netlist).names (map (λ t. wire t) l.names))
    × (after (state_of l.netlist) (map (λ t. wire t) (drop l.name-index l.names)) ≡ after (state_of l.initial.netlist) (map (λ t. wire t) l.names))
