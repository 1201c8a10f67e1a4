use Rattle.std.proofs.Common.{◌≡◌, ◌<◌, ◌+◌, All, IfOk, length, map, ap, sym, subst, ◌∙◌, rules, arith}
use Rattle.agm_net.specs.declared.port.Way.TheVariants.{Input}
use Rattle.agm_net.specs.Plain.{ports_but}
use Rattle.agm_net.proofs.Wires.{clock_within}
use Rattle.logic_graph.specs.Sources.{bits_of}
use Rattle.logic_graph.proofs.NetParts.{all_items, inputs_fit, outputs_fit, sources_are}
use Rattle.logic_graph.proofs.making.source_drawing_of.Goals as goal

pub input_bits_of-requires : goal.input_bits_of-requires
input_bits_of-requires c = λ number is. subst (λ ports. number < length ports) (sym c.as_slice.ensures) (clock_within c.args.net.now.ports number (c.args.net.now.well_formed.ports_right.clock_fits number is))

pub draw_sources-requires-clause-inputs_fit : goal.draw_sources-requires-clause-inputs_fit
draw_sources-requires-clause-inputs_fit c =
    let net = c.args.net.now in
    let wires : c.in-Some.wires ≡ length net.wires + length net.registers = search rules in
    let ins = c.as_slice-3.ensures ∙ (c.in_ok-inputs.ensures ∙ ap (λ ps. bits_of Input (ports_but net.clock ps)) c.as_slice.ensures) in
    subst (All (λ w. w < c.in-Some.wires)) (sym ins) (all_items (λ w. w < c.in-Some.wires) _ (inputs_fit net c.in-Some.wires (omega arith)))

pub draw_sources-requires-clause-outputs_fit : goal.draw_sources-requires-clause-outputs_fit
draw_sources-requires-clause-outputs_fit c =
    let net = c.args.net.now in
    let wires : c.in-Some.wires ≡ length net.wires + length net.registers = search rules in
    let outs = c.as_slice-4.ensures ∙ (c.in_ok-outputs.ensures ∙ ap (map _) c.as_slice-2.ensures) in
    subst (All (λ w. w < c.in-Some.wires)) (sym outs) (all_items (λ w. w < c.in-Some.wires) _ (outputs_fit net c.in-Some.wires (omega arith)))

pub returns : goal.returns
returns c =
    let net = c.args.net.now in
    let wires : c.in-Some.wires ≡ length net.wires + length net.registers = search rules in
    let ins = c.as_slice-3.ensures ∙ (c.in_ok-inputs.ensures ∙ ap (λ ps. bits_of Input (ports_but net.clock ps)) c.as_slice.ensures) in
    let outs = c.as_slice-4.ensures ∙ (c.in_ok-outputs.ensures ∙ ap (map _) c.as_slice-2.ensures) in
    subst (λ d. IfOk c.draw_sources.result (λ e. e ≡ d)) (sources_are net c.in-Some.wires c.as_slice-3.result.now c.as_slice-4.result.now wires ins outs) c.draw_sources.ensures
