use Rattle.std.proofs.Common.{List, length, ap, arith, length-append}
use Rattle.agm_net.specs.Plain.{bit_names}
use Rattle.share_wiring.specs.Own.{input_wires}
use Rattle.share_wiring.specs.declared.gate.Source.TheVariants.{Input}
use Rattle.share_wiring.specs.declared.gate.Wire.{Wire}
use Rattle.share_wiring.proofs.PortWires.{bit_wire_count}
use Rattle.share_wiring.proofs.bits.push_input_port.Goals as goal

pub last_port-requires : goal.last_port-requires
last_port-requires c =
    let ns = bit_names c.args.name.now c.args.range in
    let all = ap (λ (ws : List Wire). length ws) c.in_ok-push_inputs.ensures.ok in
    let len = length-append c.args.wires.now.items (input_wires ns) in
    let count = bit_wire_count ns (λ i. Input) in
    let first = c.len-first.ensures in
    let old = c.args.wires.now.ok.0 in
    omega (arith, all, len, count, first, old)
