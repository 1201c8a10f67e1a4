use Rattle.std.proofs.Common.{◌≡◌, ◌<◌, ◌+◌, All, length, take, ap, sym, subst, ◌∙◌, arith}
use Rattle.agm_net.specs.View.{plain_of}
use Rattle.logic_graph.specs.Made.{sinks_of}
use Rattle.logic_graph.proofs.NetParts.{all_items, sinks_fit, are_parts, output_bits_are, sinks_are}
use Rattle.agm_net.specs.declared.port.Way.TheVariants.{Output}
use Rattle.logic_graph.specs.Sources.{bits_of}
use Rattle.logic_graph.proofs.making.make_graph.Goals as goal

pub sinks_of-requires-clause-outputs_fit : goal.sinks_of-requires-clause-outputs_fit
sinks_of-requires-clause-outputs_fit c =
    let net = c.args.net.now in
    let size = ap length c.as_slice-3.ensures in
    let wires : length c.args.drawing.of_wire ≡ length net.wires + _ = c.requires.wires in
    let outs = c.as_slice-2.ensures ∙ (c.in_ok-outputs.ensures ∙ ap (bits_of Output) c.as_slice.ensures) in
    subst (All (λ w. w < length c.as_slice-3.result.now)) (sym outs) (all_items (λ w. w < length c.as_slice-3.result.now) _ (sinks_fit net (length c.as_slice-3.result.now) (omega arith)))

pub graph_of-requires : goal.graph_of-requires
graph_of-requires c =
    let net = c.args.net.now in
    let outs = c.as_slice-2.ensures ∙ (c.in_ok-outputs.ensures ∙ (ap (bits_of Output) c.as_slice.ensures ∙ output_bits_are net)) in
    let sinks : c.in_ok-sinks.sinks ≡ sinks_of (plain_of net) c.args.drawing = c.in_ok-sinks.ensures ∙ sinks_are (plain_of net) c.args.drawing c.as_slice-2.result.now c.as_slice-3.result.now c.len-wires.result outs c.as_slice-3.ensures c.len-wires.ensures in
    are_parts net c.args.drawing c.in_ok-sinks.sinks c.first_of.result c.requires sinks (c.first_of.ensures ∙ ap (λ n. take n c.args.drawing.of_wire) c.len-wires.ensures)
