use Rattle.std.proofs.Common.{◌<◌, ℕ, All, List, length, sym, subst}
use Rattle.std.specs.List.{AllByRecursion}
use Rattle.agm_net.specs.View.{plain_of}
use Rattle.agm_net.specs.declared.port.Port.{Port}
use Rattle.agm_net.proofs.Wires.{ports_bits}
use Rattle.sim_text.proofs.Ports.{ports_within}
use Rattle.sim_text.proofs.lines.push_line.Goals as goal

pub push_outputs-requires : goal.push_outputs-requires
push_outputs-requires c =
    let net = c.args.net.now in
    let n = length c.args.row.now in
    let within : AllByRecursion (λ p. AllByRecursion (λ w. w < n) p.bits) net.ports =
    subst (λ (m : ℕ). AllByRecursion (λ (p : Port). AllByRecursion (λ w. w < m) p.bits) net.ports) (sym c.requires) (ports_bits (plain_of net) net.well_formed) in
    subst (λ (ps : List Port). All (λ p. All (λ w. w < n) p.bits) ps) (sym c.as_slice.ensures) (ports_within n net.ports within)
