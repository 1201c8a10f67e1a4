use Rattle.std.proofs.Common.{◌≡◌, ◌<◌, All, List, ℕ, length, sym, subst, ap}
use Rattle.agm_net.specs.View.{plain_of}
use Rattle.probe_cones.specs.Cone.{cone}
use Rattle.probe_text.proofs.Texts.{cone_inside}
use Rattle.probe_text.proofs.cones.push_probe.Goals as goal

pub push_wires-requires : goal.push_wires-requires
push_wires-requires c =
    let net = plain_of c.args.net.now in
    let names = c.as_slice-2.result.now in
    let same : length names ≡ length net.wires = ap length c.as_slice-2.ensures in
    subst (λ (vs : List ℕ). All (λ v. v < length names) vs) (sym c.requires.found)
    (subst (λ (n : ℕ). All (λ v. v < n) (cone net c.args.probe.wire)) (sym same) (cone_inside net c.args.probe.wire))
