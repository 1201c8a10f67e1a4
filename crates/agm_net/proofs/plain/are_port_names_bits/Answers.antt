use Rattle.std.proofs.Common.{◌∙◌, ap, length, ℕ, List}
use Rattle.agm_net.specs.Checks.{port_bits}
use Rattle.agm_net.proofs.Counts.{uses-length}
use Rattle.agm_net.proofs.PlainForm.{bits_told}
use Rattle.agm_net.proofs.plain.are_port_names_bits.Goals as goal

pub are_others_or_counted-requires : goal.are_others_or_counted-requires
are_others_or_counted-requires c =
    ap (λ (xs : List ℕ). length xs) (c.as_slice.ensures.value ∙ c.in_ok-counts.ensures) ∙ uses-length (length c.args.wires.now) (port_bits c.args.ports.now)

pub returns : goal.returns
returns c =
    bits_told c.in_ok-names.names c.args.wires.now c.args.ports.now c.as_slice.result.now (c.as_slice.ensures.value ∙ c.in_ok-counts.ensures) c.in_ok-names.ensures
    c.are_others_or_counted.result c.are_others_or_counted.ensures
