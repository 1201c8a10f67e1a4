use Rattle.std.proofs.Common.{◌≡◌, ◌<◌, ◌++◌, List, ap, ap₂, sym, subst, ◌∙◌, length}
use Rattle.std.specs.List.{All, flat_map}
use Rattle.std.proofs.lemmas.List.FromFn.{length-map-range_with_len}
use Rattle.agm_net.specs.Run.{bit_in, run_of}
use Rattle.agm_net.specs.Trace.{Row}
use Rattle.agm_net.specs.View.{plain_of}
use Rattle.probe_cones.specs.Cone.{observed}
use Rattle.probe_cones.specs.Inputs.{with_random}
use Rattle.probe_cones.specs.Observing.{index_bits, probe_bits, wires_in}
use Rattle.probe_cones.specs.declared.probe.Probe.{Probe}
use Rattle.probe_cones.proofs.Joined.{tape_long}
use Rattle.probe_cones.proofs.Seen.{all_seen}
use Rattle.probe_cones.proofs.observation.observe.Goals as goal

pub watch_probes-requires-clause-cycles : goal.watch_probes-requires-clause-cycles
watch_probes-requires-clause-cycles c =
    let net = plain_of c.args.net.now in
    let inputs = c.args.inputs.now.rows in
    let tape = with_random net inputs c.args.random.now.rows in
    let long : length c.as_slice.result.now ≡ length inputs =
    ap length (c.as_slice.ensures ∙ c.in_ok-table.ensures) ∙ (length-map-range_with_len (wires_in net c.args.power_up.now tape) 0 (length tape) ∙ tape_long net inputs c.args.random.now.rows c.requires.as_long) in
    subst (λ n. All (λ (p : Probe). p.cycle < n) c.as_slice-2.result.now) (sym long)
    (subst (All (λ (p : Probe). p.cycle < length inputs)) (sym c.as_slice-2.ensures) c.requires.cycles)

pub returns : goal.returns
returns c =
    let net = plain_of c.args.net.now in
    let power = c.args.power_up.now in
    let inputs = c.args.inputs.now.rows in
    let tape = with_random net inputs c.args.random.now.rows in
    let ps = c.args.probes.now.probes in
    let A = c.args.probes.now.indices in
    let long = tape_long net inputs c.args.random.now.rows c.requires.as_long in
    let table : List Row = run_of net power tape in
    let first : c.watch_probes.new.row ≡ flat_map (probe_bits net table) ps =
    c.in_ok-watch_probes.ensures ∙ (ap₂ (λ t qs. c.new-row.result ++ flat_map (probe_bits net t) qs) (c.as_slice.ensures ∙ c.in_ok-table.ensures) c.as_slice-2.ensures ∙ ap (λ r. r ++ flat_map (probe_bits net table) ps) c.new-row.ensures) in
    c.in_ok-watch_indices.ensures
    ∙ (ap₂ (λ r s. r ++ s) first (ap₂ (λ t is. flat_map (index_bits net t) is) (c.as_slice-3.ensures ∙ c.in_ok-table.ensures) c.as_slice-4.ensures)
    ∙ (all_seen net power tape ps A (subst (λ n. All (λ (p : Probe). p.cycle < n) ps) (sym long) c.requires.cycles)
    ∙ ap (λ n. observed net ps A n (bit_in net power tape)) long))
