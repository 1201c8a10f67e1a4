use Rattle.std.proofs.Common.{◌≡◌, ◌<◌, Some, sym, subst, ap₂, length}
use Rattle.std.specs.List.{AllByRecursion}
use Rattle.agm_net.specs.Plain.{bits_of_port, clock_bits}
use Rattle.agm_net.specs.View.{plain_of}
use Rattle.agm_net.proofs.Wires.{clock_within, clock_is_wire}
use Rattle.probe_cones.specs.Origins.{HasMarkedClock}
use Rattle.probe_cones.proofs.origins.mark_clock_of.Goals as goal

pub mark_port-requires-clause-in_range : goal.mark_port-requires-clause-in_range
mark_port-requires-clause-in_range c =
    subst (λ ps. c.in-Some.number < length ps) (sym c.as_slice.ensures) (clock_within c.args.net.now.ports c.in-Some.number (c.args.net.now.well_formed.ports_right.clock_fits c.in-Some.number c.in-Some.is))

pub mark_port-requires-clause-bits : goal.mark_port-requires-clause-bits
mark_port-requires-clause-bits c =
    let net = plain_of c.args.net.now in
    let same : clock_bits net ≡ bits_of_port c.as_slice.result.now (Some c.in-Some.number) = ap₂ bits_of_port (sym c.as_slice.ensures) c.in-Some.is in
    subst (AllByRecursion (λ b. b < length c.args.origins.now)) same
    (subst (λ n. AllByRecursion (λ b. b < n) (clock_bits net)) (sym c.requires) (clock_is_wire net c.args.net.now.well_formed))

pub returns-in-Some : goal.returns-in-Some
returns-in-Some c =
    let net = plain_of c.args.net.now in
    let same : clock_bits net ≡ bits_of_port c.as_slice.result.now (Some c.in-Some.number) = ap₂ bits_of_port (sym c.as_slice.ensures) c.in-Some.is in
    subst (λ bs. HasMarkedClock bs c.args.origins.now c.mark_port.new.origins) (sym same) c.mark_port.ensures
