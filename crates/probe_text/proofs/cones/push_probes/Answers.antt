use Rattle.std.proofs.Common.{◌≡◌, ◌++◌, List, length, take, get_or, sym, ap, ◌∙◌, arith}
use Rattle.std.specs.List.{enumerate_from, flat_map}
use Rattle.std.proofs.lemmas.List.{length-take-le, take_more}
use Rattle.agm_net.specs.View.{plain_of}
use Rattle.probe_cones.specs.declared.probe.Probe.{Probe}
use Rattle.sim_text.proofs.Texts.{text_more}
use Rattle.probe_text.specs.Text.{probe_line}
use Rattle.probe_text.proofs.cones.push_probes.Goals as goal

pub loop-place-preserved : goal.loop-place-preserved
loop-place-preserved c =
    let net = plain_of c.args.net.now in
    let ps = c.args.probes.now in
    let k = c.loop-place.place in
    let none : Probe = record { wire = 0; cycle = 0 } in
    let test = c.loop-place-test.true in
    let place : k ≡ length (take k ps) = sym (length-take-le k ps (omega arith)) in
    c.in_ok-push_probe.ensures
    ∙ ap (λ t. t ++ probe_line net (k, get_or ps k none)) c.loop-place.invariant
    ∙ text_more (probe_line net) c.args.text.now k (take k ps) (get_or ps k none) place
    ∙ ap (λ (qs : List Probe). c.args.text.now ++ flat_map (probe_line net) (enumerate_from 0 qs)) (sym (take_more ps k none test))
