use Rattle.std.proofs.Common.{◌≡◌, ◌<◌, length, sym, ap, ◌∙◌, subst}
use Rattle.std.specs.List.{AllByRecursion}
use Rattle.agm_net.specs.View.{plain_of}
use Rattle.agm_net.specs.declared.port.Port.{Port}
use Rattle.agm_net.proofs.Wires.{ports_bits}
use Rattle.secrecy_spread.proofs.Agreed.{port_from}
use Rattle.secrecy_spread.proofs.spreading.leaking_port.Goals as goal

pub first_leak-requires-clause-within : goal.first_leak-requires-clause-within
first_leak-requires-clause-within c =
    let net = plain_of c.args.net.now in
    let long : length c.as_slice-2.result.now ≡ length c.args.net.now.wires = ap length c.as_slice-2.ensures ∙ c.in_ok-secret.ensures.one_each in
    subst (λ ps. AllByRecursion (λ (p : Port). AllByRecursion (λ w. w < length c.as_slice-2.result.now) p.bits) ps) (sym c.as_slice.ensures)
    (subst (λ n. AllByRecursion (λ (p : Port). AllByRecursion (λ w. w < n) p.bits) c.args.net.now.ports) (sym long) (ports_bits net c.args.net.now.well_formed))

pub returns : goal.returns
returns c =
    port_from (plain_of c.args.net.now) c.args.marks.now.kinds c.as_slice-kinds.result.now c.in_ok-secret.secret c.as_slice-2.result.now c.as_slice.result.now c.first_leak.result c.as_slice-kinds.ensures c.as_slice-2.ensures c.as_slice.ensures c.in_ok-secret.ensures c.first_leak.ensures
