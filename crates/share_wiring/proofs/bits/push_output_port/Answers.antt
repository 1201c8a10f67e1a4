use Rattle.std.proofs.Common.{List, length, get_or, ap, arith, length-append}
use Rattle.agm_net.specs.Plain.{bit_names}
use Rattle.share_wiring.specs.Own.{copy_wires}
use Rattle.share_wiring.specs.declared.gate.Source.TheVariants.{Equation}
use Rattle.share_wiring.specs.declared.gate.Gate.TheVariants.{Same}
use Rattle.share_wiring.specs.declared.gate.Wire.{Wire}
use Rattle.share_wiring.proofs.PortWires.{bit_wire_count}
use Rattle.share_wiring.proofs.bits.push_output_port.Goals as goal

pub last_port-requires : goal.last_port-requires
last_port-requires c =
    let ns = bit_names c.args.name.now c.args.range in
    let all = ap (λ (ws : List Wire). length ws) c.in_ok-push_copies.ensures.ok in
    let len = length-append c.args.wires.now.items (copy_wires ns c.args.bits.now) in
    let count = bit_wire_count ns (λ i. Equation (Same (get_or c.args.bits.now i 0))) in
    let first = c.len-first.ensures in
    let old = c.args.wires.now.ok.0 in
    omega (arith, all, len, count, first, old)
