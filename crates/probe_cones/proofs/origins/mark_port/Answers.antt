use Rattle.std.proofs.Common.{◌≡◌, ◌<◌, Some, length, get_or, sym, subst, ◌∙◌}
use Rattle.std.specs.List.{AllByRecursion}
use Rattle.std.proofs.lemmas.Option.{slice_get-get_or}
use Rattle.agm_net.proofs.Lists.{all_of_one}
use Rattle.agm_net.specs.Plain.{bits_of_port}
use Rattle.probe_cones.specs.Origins.{HasMarkedClock}
use Rattle.probe_cones.proofs.OriginsTold.{port_bits}
use Rattle.probe_cones.proofs.origins.mark_port.Goals as goal

pub mark_clock-requires : goal.mark_clock-requires
mark_clock-requires c = λ k d lt. (
    let bits = c.as_slice.result.now in
    let same : bits_of_port c.args.ports.now (Some c.args.number) ≡ bits = port_bits c.args.ports.now c.args.number c.index-ports-number.result c.requires.in_range ∙ sym c.as_slice.ensures in
    all_of_one (λ b. b < length c.args.origins.now) bits k (get_or bits k d) (subst (AllByRecursion (λ b. b < length c.args.origins.now)) same c.requires.bits) (slice_get-get_or bits k d lt))

pub returns : goal.returns
returns c =
    let bits = c.as_slice.result.now in
    let same : bits_of_port c.args.ports.now (Some c.args.number) ≡ bits = port_bits c.args.ports.now c.args.number c.index-ports-number.result c.requires.in_range ∙ sym c.as_slice.ensures in
    subst (λ bs. HasMarkedClock bs c.args.origins.now c.mark_clock.new.origins) (sym same) c.mark_clock.ensures
