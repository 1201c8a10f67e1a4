use Rattle.std.proofs.Common.{◌≡◌, ◌<◌, All, List, ℕ, IfOk, length, map, sym, subst, ap, ◌∙◌}
use Rattle.agm_net.specs.View.{plain_of}
use Rattle.probe_cones.specs.Cone.{cone}
use Rattle.probe_cones.proofs.Outputs.{wires_inside}
use Rattle.probe_text.proofs.Texts.{cones_mapped}
use Rattle.probe_text.proofs.cones.cones_of.Goals as goal

pub cones-requires-clause-in_range : goal.cones-requires-clause-in_range
cones-requires-clause-in_range c =
    let n = length c.args.net.now.wires in
    subst (All (λ w. w < n)) (sym (c.as_slice.ensures ∙ c.in_ok-wires.ensures)) (wires_inside n c.args.probes.now c.requires.in_range)

pub returns : goal.returns
returns c =
    let net = plain_of c.args.net.now in
    let same = ap (map (cone net)) (c.as_slice.ensures ∙ c.in_ok-wires.ensures) ∙ cones_mapped net c.args.probes.now in
    subst (λ (cs : List (List ℕ)). IfOk c.cones.result (λ found. found ≡ cs)) same c.cones.ensures
