use Rattle.std.proofs.Common.{◌≡◌, ◌<◌, ◌++◌, OnOk, ap, map, sym, subst, ◌∙◌, length}
use Rattle.std.specs.List.{All}
use Rattle.agm_net.specs.View.{plain_of}
use Rattle.probe_cones.specs.Cone.{cone}
use Rattle.probe_cones.specs.Observing.{probed}
use Rattle.probe_cones.proofs.Outputs.{wires_inside}
use Rattle.probe_cones.proofs.Seen.{probed_is}
use Rattle.probe_cones.proofs.observation.watch_probes.Goals as goal

pub cones-requires-clause-in_range : goal.cones-requires-clause-in_range
cones-requires-clause-in_range c =
    let n = length c.args.net.now.wires in
    subst (All (λ w. w < n)) (sym (c.as_slice.ensures ∙ c.in_ok-wires.ensures)) (wires_inside n c.args.probes.now c.requires.wires)

pub returns : goal.returns
returns c =
    let net = plain_of c.args.net.now in
    let table = c.args.table.now in
    let ps = c.args.probes.now in
    subst (λ x. OnOk c.add_probes.result (c.add_probes.new.row ≡ c.args.row.now ++ x))
    (ap (λ cs. probed table cs ps) (c.as_slice-2.ensures ∙ (c.in_ok-cones.ensures ∙ ap (map (cone net)) (c.as_slice.ensures ∙ c.in_ok-wires.ensures))) ∙ probed_is net table ps)
    c.add_probes.ensures
