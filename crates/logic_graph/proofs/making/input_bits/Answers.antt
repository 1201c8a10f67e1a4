use Rattle.std.proofs.Common.{◌≡◌, ◌<◌, IfOk, length, ap, sym, subst, ◌∙◌}
use Rattle.agm_net.specs.Plain.{ports_but}
use Rattle.agm_net.specs.declared.port.Way.TheVariants.{Input}
use Rattle.agm_net.proofs.Wires.{clock_within}
use Rattle.logic_graph.specs.Sources.{bits_of}
use Rattle.logic_graph.proofs.NetParts.{input_bits_are}
use Rattle.logic_graph.proofs.making.input_bits.Goals as goal

pub input_bits_of-requires : goal.input_bits_of-requires
input_bits_of-requires c = λ number is. subst (λ ports. number < length ports) (sym c.as_slice.ensures) (clock_within c.args.net.now.ports number (c.args.net.now.well_formed.ports_right.clock_fits number is))

pub returns : goal.returns
returns c =
    let net = c.args.net.now in
    let bits = ap (λ ports. bits_of Input (ports_but net.clock ports)) c.as_slice.ensures ∙ input_bits_are (ports_but net.clock net.ports) in
    subst (λ wires. IfOk c.input_bits_of.result (λ found. found ≡ wires)) bits c.input_bits_of.ensures
